-- What a body does to the tiles of its task, within a budget of units.
-- Carried by: `run_body`; law `body_laws::more_units_change_nothing`.
-- Tested by: `body_statements.txt`, `body_variables.txt`, `body_traps.txt`, `body_budget.txt`.
use Rattle.std.specs.Prelude.{ℕ, zero, suc, ◌-◌, ℤ, pos, ◌+ℤ◌, ◌-ℤ◌, int_lt, unsigned_abs, List, [], ◌∷◌, ◌++◌, length, replicate, Result, Ok, Err}
use Rattle.std.specs.Prelude.{Option, if◌then◌else◌}
use Rattle.term_core.specs.Term.{Term}
use Rattle.term_core.specs.Arith.{holds}
use Rattle.ptg_base.specs.Returns.{and_then}
use Rattle.term_core.specs.StatementList.{StatementList, Done, SetThen, PutThen, IfThen, ForThen, TrapThen}
use Rattle.term_core.specs.declared.body.Body.{Body}
use Rattle.term_core.specs.declared.trap.Trap.{Trap}
use Rattle.term_core.specs.declared.trap.Trap.TheVariants.{Word}
use Rattle.body_eval.specs.State.{State, spent, value_in, assigned, put}

-- an action that costs one unit as it starts, and then what follows it
abbrev pub first_then : (State → Result State Trap) → (State → Result State Trap) → State → Result State Trap
first_then act rest s = and_then (spent s) (λ t. and_then (act t) rest)

-- `x = e;`
abbrev pub set_meaning : ℕ → Term → State → Result State Trap
set_meaning n e s = and_then (value_in s e) (λ v. Ok (assigned n v s))

-- `A[at] = e;`: the index is evaluated first, then the value
abbrev pub put_meaning : ℕ → Term → Term → State → Result State Trap
put_meaning flow at e s = and_then (value_in s at) (λ i. and_then (value_in s e) (λ v. put flow i v s))

-- `if (c) { .. } else { .. }`, given what the two blocks do
abbrev pub if_meaning : Term → (State → Result State Trap) → (State → Result State Trap) → State → Result State Trap
if_meaning c first second s = and_then (value_in s c) (λ x. if holds x then first s else second s)

-- this many whole numbers from v upwards
abbrev pub upwards : ℕ → ℤ → List ℤ
upwards zero v = []
upwards (suc more) v = v ∷ upwards more (v +ℤ pos 1)

-- the whole numbers from lo to hi, upwards; none if hi is less than lo
unfoldable pub turn_values : ℤ → ℤ → List ℤ
turn_values lo hi = if int_lt hi lo then [] else upwards (suc (unsigned_abs (hi -ℤ lo))) lo

-- the turns of a loop for these values of its variable, given what its block does; each turn costs one unit as it
-- starts
abbrev pub turns : (State → Result State Trap) → ℕ → List ℤ → State → Result State Trap
turns block n [] s = Ok s
turns block n (v ∷ more) s = first_then (λ t. block (assigned n v t)) (turns block n more) s

-- `for i = lo .. hi { .. }`, given what its block does: lo is evaluated first, then hi, each once
abbrev pub for_meaning : ℕ → Term → Term → (State → Result State Trap) → State → Result State Trap
for_meaning n lo hi block s =
    and_then (value_in s lo) (λ a. and_then (value_in s hi) (λ b. turns block n (turn_values a b) s))

-- the state after statements in order, or the first trap; each statement costs one unit as it starts
abbrev pub run : StatementList → State → Result State Trap
run Done s = Ok s
run (SetThen n e rest) s = first_then (set_meaning n e) (run rest) s
run (PutThen flow at e rest) s = first_then (put_meaning flow at e) (run rest) s
run (IfThen c first second rest) s = first_then (if_meaning c (run first) (run second)) (run rest) s
run (ForThen n lo hi turn rest) s = first_then (for_meaning n lo hi (run turn)) (run rest) s
run (TrapThen w rest) s = first_then (λ t. Err (Word w)) (run rest) s

-- the state as a body starts: the first slots hold the locals of the task, and each variable holds 0
abbrev pub opening : List ℤ → ℕ → List (Option (List ℤ)) → ℕ → State
opening locals slots tiles units =
    record { slots = locals ++ replicate (slots - length locals) (pos 0); tiles = tiles; units_left = units }

-- the tiles of a task after its body within this many units, or why it trapped
abbrev pub meaning_within : ℕ → Body → List ℤ → List (Option (List ℤ)) → Result (List (Option (List ℤ))) Trap
meaning_within units body locals tiles =
    and_then (run body.statements (opening locals body.slots tiles units)) (λ s. Ok s.tiles)

-- the units of a task's budget: 2 ^ 24
unfoldable pub task_budget : ℕ
task_budget = 16777216

-- the tiles of a task after its body, or why it trapped
abbrev pub body_meaning : Body → List ℤ → List (Option (List ℤ)) → Result (List (Option (List ℤ))) Trap
body_meaning body locals tiles = meaning_within task_budget body locals tiles
