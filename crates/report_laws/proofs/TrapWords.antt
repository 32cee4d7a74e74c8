-- A body traps only with a word that is below the number of its class's words, if each of its `trap` statements has
-- one.
use Rattle.std.proofs.Common.{◌≡◌, ◌<◌, ℕ, ℤ, Bool, true, false, ◌&&◌, ◌==◌, ◌-◌, nat_lt, if◌then◌else◌, List, [], ◌∷◌, Option, Some, None, Result, Ok, Err}
use Rattle.std.proofs.lemmas.Bool.{and_parts, ltb-true}
use Rattle.std.specs.Prelude.{length}
use Rattle.std.specs.Option.{option_map_or}
use Rattle.term_core.specs.Term.{Term, Num, Local, Elem, Unary, Binary, Choose}
use Rattle.term_core.specs.Arith.{holds, arithmetic, decided, unary_value}
use Rattle.ptg_base.specs.Returns.{and_then}
use Rattle.term_core.specs.Value.{map_fault}
use Rattle.term_core.specs.Trap.{trap_of}
use Rattle.term_core.specs.StatementList.{StatementList, Done, SetThen, PutThen, IfThen, ForThen, TrapThen}
use Rattle.term_core.specs.declared.body.Body.{Body}
use Rattle.term_core.specs.declared.fault.ExprFault.{ExprFault}
use Rattle.term_core.specs.declared.fault.ExprFault.TheVariants as fault
use Rattle.term_core.specs.declared.trap.Trap.{Trap}
use Rattle.term_core.specs.declared.trap.Trap.TheVariants.{Overflow, Divide, Index, Absent, Budget, Word}
use Rattle.plan_core.specs.Bodies.{has_words}
use Rattle.ptg_base.specs.Index.{index_in}
use Rattle.body_eval.specs.Element.{body_value, element_value, put_element, read, read_at, tile_of, written, written_at}
use Rattle.body_eval.specs.State.{State, assigned, put, spent, value_in}
use Rattle.body_eval.specs.Meaning.{body_meaning, first_then, for_meaning, if_meaning, opening, put_meaning, run, set_meaning, task_budget, turn_values, turns}

-- a trap's word is below a number
abbrev pub IsAllowed : ℕ → Trap → Type 0
IsAllowed n Overflow = Unit {0}
IsAllowed n Divide = Unit {0}
IsAllowed n Index = Unit {0}
IsAllowed n Absent = Unit {0}
IsAllowed n Budget = Unit {0}
IsAllowed n (Word w) = w < n

-- the same for a result that traps
abbrev pub Allows : {A : Type 0} → ℕ → Result A Trap → Type 0
Allows n (Ok x) = Unit {0}
Allows n (Err cause) = IsAllowed n cause

module _ (n : ℕ) where
  allows-and_then : {A B : Type 0} (r : Result A Trap) (f : A → Result B Trap) → Allows n r → ((x : A) → Allows n (f x)) → Allows n (and_then r f)
  allows-and_then (Ok x) f h k = k x
  allows-and_then (Err e) f h k = h

  allows-fault : (r : Result ℤ ExprFault) → Allows n (map_fault trap_of r)
  allows-fault (Ok x) = tt
  allows-fault (Err fault.Overflow) = tt
  allows-fault (Err fault.Divide) = tt

  allows-decided : (d : Option ℤ) (r : Result ℤ Trap) → Allows n r → Allows n (option_map_or Ok d r)
  allows-decided (Some z) r h = tt
  allows-decided None r h = h

  allows-choice : {A : Type 0} (b : Bool) (p q : Result A Trap) → Allows n p → Allows n q → Allows n (if b then p else q)
  allows-choice true p q h k = h
  allows-choice false p q h k = k

  allows-read_at : (xs : List ℤ) (i : Option ℕ) → Allows n (read_at xs i)
  allows-read_at xs (Some k) = tt
  allows-read_at xs None = tt

  allows-read : (tile : Option (List ℤ)) (at : ℤ) → Allows n (read tile at)
  allows-read None at = tt
  allows-read (Some xs) at = allows-read_at xs (index_in (length xs) at)

  allows-written_at : (xs : List ℤ) (i : Option ℕ) (v : ℤ) → Allows n (written_at xs i v)
  allows-written_at xs (Some k) v = tt
  allows-written_at xs None v = tt

  allows-written : (tile : Option (List ℤ)) (at v : ℤ) → Allows n (written tile at v)
  allows-written None at v = tt
  allows-written (Some xs) at v = allows-written_at xs (index_in (length xs) at) v

  allows-put_element : (tiles : List (Option (List ℤ))) (flow : ℕ) (at v : ℤ) → Allows n (put_element tiles flow at v)
  allows-put_element tiles flow at v = allows-and_then (written (tile_of tiles flow) at v) _ (allows-written (tile_of tiles flow) at v) (λ xs. tt)

  allows-value : (slots : List ℤ) (tiles : List (Option (List ℤ))) (e : Term) → Allows n (body_value slots tiles e)
  allows-value slots tiles (Num z) = tt
  allows-value slots tiles (Local k) = tt
  allows-value slots tiles (Elem flow at) =
      allows-and_then (body_value slots tiles at) (λ i. element_value tiles flow i) (allows-value slots tiles at) (λ i. allows-read (tile_of tiles flow) i)
  allows-value slots tiles (Unary o a) =
      allows-and_then (body_value slots tiles a) (λ x. map_fault trap_of (unary_value o x)) (allows-value slots tiles a) (λ x. allows-fault (unary_value o x))
  allows-value slots tiles (Binary o a b) =
      allows-and_then (body_value slots tiles a) (λ x. option_map_or Ok (decided o x)
      (and_then (body_value slots tiles b) (λ y. map_fault trap_of (arithmetic o x y))))
      (allows-value slots tiles a)
      (λ x. allows-decided (decided o x) (and_then (body_value slots tiles b) (λ y. map_fault trap_of (arithmetic o x y)))
      (allows-and_then (body_value slots tiles b) (λ y. map_fault trap_of (arithmetic o x y))
      (allows-value slots tiles b) (λ y. allows-fault (arithmetic o x y))))
  allows-value slots tiles (Choose c a b) =
      allows-and_then (body_value slots tiles c) (λ x. if holds x then body_value slots tiles a else body_value slots tiles b) (allows-value slots tiles c)
      (λ x. allows-choice (holds x) (body_value slots tiles a) (body_value slots tiles b) (allows-value slots tiles a) (allows-value slots tiles b))

  allows-spent : (s : State) → Allows n (spent s)
  allows-spent s = allows-choice (s.units_left == 0) (Err Budget) (Ok (record s { units_left = s.units_left - 1 })) tt tt

  abbrev AllowsAll : (State → Result State Trap) → Type 0
  AllowsAll act = (s : State) → Allows n (act s)

  allows-first_then : (act rest : State → Result State Trap) → AllowsAll act → AllowsAll rest → AllowsAll (first_then act rest)
  allows-first_then act rest h k s = allows-and_then (spent s) (λ t. and_then (act t) rest) (allows-spent s) (λ t. allows-and_then (act t) rest (h t) k)

  allows-set : (m : ℕ) (e : Term) → AllowsAll (set_meaning m e)
  allows-set m e s = allows-and_then (value_in s e) (λ v. Ok (assigned m v s)) (allows-value s.slots s.tiles e) (λ v. tt)

  allows-put : (flow : ℕ) (at e : Term) → AllowsAll (put_meaning flow at e)
  allows-put flow at e s =
      allows-and_then (value_in s at) (λ i. and_then (value_in s e) (λ v. put flow i v s)) (allows-value s.slots s.tiles at)
      (λ i. allows-and_then (value_in s e) (λ v. put flow i v s) (allows-value s.slots s.tiles e)
      (λ v. allows-and_then (put_element s.tiles flow i v) (λ tiles. Ok (record s { tiles = tiles })) (allows-put_element s.tiles flow i v) (λ tiles. tt)))

  allows-if : (c : Term) (first second : State → Result State Trap) → AllowsAll first → AllowsAll second → AllowsAll (if_meaning c first second)
  allows-if c first second h k s =
      allows-and_then (value_in s c) (λ x. if holds x then first s else second s) (allows-value s.slots s.tiles c)
      (λ x. allows-choice (holds x) (first s) (second s) (h s) (k s))

  allows-turns : (block : State → Result State Trap) (m : ℕ) → AllowsAll block → (values : List ℤ) → AllowsAll (turns block m values)
  allows-turns block m h [] s = tt
  allows-turns block m h (v ∷ more) s = allows-first_then (λ t. block (assigned m v t)) (turns block m more)
      (λ t. h (assigned m v t)) (allows-turns block m h more) s

  allows-for : (m : ℕ) (lo hi : Term) (block : State → Result State Trap) → AllowsAll block → AllowsAll (for_meaning m lo hi block)
  allows-for m lo hi block h s =
      allows-and_then (value_in s lo) (λ a. and_then (value_in s hi) (λ b. turns block m (turn_values a b) s)) (allows-value s.slots s.tiles lo)
      (λ a. allows-and_then (value_in s hi) (λ b. turns block m (turn_values a b) s) (allows-value s.slots s.tiles hi)
      (λ b. allows-turns block m h (turn_values a b) s))

  allows-run : (b : StatementList) → has_words n b ≡ true → AllowsAll (run b)
  allows-run Done h s = tt
  allows-run (SetThen m e rest) h s = allows-first_then (set_meaning m e) (run rest) (allows-set m e) (allows-run rest h) s
  allows-run (PutThen flow at e rest) h s = allows-first_then (put_meaning flow at e) (run rest) (allows-put flow at e) (allows-run rest h) s
  allows-run (IfThen c first second rest) h s =
      let p = and_parts (has_words n first && has_words n second) (has_words n rest) h in
      let q = and_parts (has_words n first) (has_words n second) p.0 in
      allows-first_then (if_meaning c (run first) (run second)) (run rest)
      (allows-if c (run first) (run second) (allows-run first q.0) (allows-run second q.1)) (allows-run rest p.1) s
  allows-run (ForThen m lo hi turn rest) h s =
      let p = and_parts (has_words n turn) (has_words n rest) h in
      allows-first_then (for_meaning m lo hi (run turn)) (run rest) (allows-for m lo hi (run turn) (allows-run turn p.0)) (allows-run rest p.1) s
  allows-run (TrapThen w rest) h s =
      let p = and_parts (nat_lt w n) (has_words n rest) h in
      allows-first_then (λ t. Err (Word w)) (run rest) (λ t. ltb-true w n p.0) (allows-run rest p.1) s

  -- a body with such words traps with one of them
  pub allows-body : (body : Body) (locals : List ℤ) (tiles : List (Option (List ℤ)))
      → has_words n body.statements ≡ true → Allows n (body_meaning body locals tiles)
  allows-body body locals tiles h =
      allows-and_then (run body.statements (opening locals body.slots tiles task_budget)) (λ s. Ok s.tiles)
      (allows-run body.statements h (opening locals body.slots tiles task_budget)) (λ s. tt)
