-- The state of a body between two statements.
-- Carried by: `run_body`; law `body_laws::more_units_change_nothing`.
-- Tested by: `body_statements.txt`, `body_variables.txt`, `body_traps.txt`, `body_budget.txt`.
use Rattle.std.specs.Prelude.{ℕ, ◌-◌, ℤ, List, Result, Ok, Err, Option, ◌==◌, if◌then◌else◌, slice_set}
use Rattle.term_core.specs.Term.{Term}
use Rattle.ptg_base.specs.Returns.{and_then}
use Rattle.term_core.specs.declared.trap.Trap.{Trap}
use Rattle.term_core.specs.declared.trap.Trap.TheVariants.{Budget}
use Rattle.body_eval.specs.Element.{put_element, body_value}

-- what a running body has apart from the tiles: the values of the task's locals and of its own variables, and the units
-- that are left
pub record Frame : Type 0 where
  pub slots : List ℤ
  pub units_left : ℕ

-- the frame, with the tiles of the task's flows
pub record State : Type 0 where
  pub slots : List ℤ
  pub tiles : List (Option (List ℤ))
  pub units_left : ℕ

-- the state with one unit less; a trap if none is left
abbrev pub spent : State → Result State Trap
spent s = if s.units_left == 0 then Err Budget else Ok (record s { units_left = s.units_left - 1 })

-- the value of an expression
abbrev pub value_in : State → Term → Result ℤ Trap
value_in s e = body_value s.slots s.tiles e

-- the state with another value in a slot
abbrev pub assigned : ℕ → ℤ → State → State
assigned n v s = record s { slots = slice_set s.slots n v }

-- the state with another element in a flow's tile
abbrev pub put : ℕ → ℤ → ℤ → State → Result State Trap
put flow at v s = and_then (put_element s.tiles flow at v) (λ tiles. Ok (record s { tiles = tiles }))

-- the state of a frame and these tiles
abbrev pub state_of : Frame → List (Option (List ℤ)) → State
state_of frame tiles = record { slots = frame.slots; tiles = tiles; units_left = frame.units_left }
