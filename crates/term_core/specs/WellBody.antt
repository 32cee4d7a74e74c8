-- Well made bodies: they name only slots and flows that exist, and set no local of the task.
-- Carried by: the condition of `body_eval::run_body`.
use Rattle.std.specs.Prelude.{ℕ, Bool, true, ◌&&◌, ◌+◌, ◌≤◌, nat_lt, nat_le, IsTrue}
use Rattle.ptg_base.specs.Limits.{most_flows, most_locals, most_variables}
use Rattle.term_core.specs.StatementList.{StatementList, Done, SetThen, PutThen, IfThen, ForThen, TrapThen}
use Rattle.term_core.specs.Value.{is_closed_with}
use Rattle.term_core.specs.declared.body.Body.{Body}

-- whether a slot is that of a variable: one of this many slots, but not one of the locals' slots, which come first
abbrev pub is_variable : ℕ → ℕ → ℕ → Bool
is_variable locals slots n = nat_le locals n && nat_lt n slots

-- whether the statements name only this many slots and flows, and set no slot of this many locals
abbrev pub are_well_made : ℕ → ℕ → ℕ → StatementList → Bool
are_well_made locals slots flows Done = true
are_well_made locals slots flows (SetThen n e rest) =
    is_variable locals slots n && is_closed_with slots flows e && are_well_made locals slots flows rest
are_well_made locals slots flows (PutThen flow at e rest) =
    nat_lt flow flows && is_closed_with slots flows at && is_closed_with slots flows e
    && are_well_made locals slots flows rest
are_well_made locals slots flows (IfThen c first second rest) =
    is_closed_with slots flows c && are_well_made locals slots flows first && are_well_made locals slots flows second
    && are_well_made locals slots flows rest
are_well_made locals slots flows (ForThen n lo hi turn rest) =
    is_variable locals slots n && is_closed_with slots flows lo && is_closed_with slots flows hi
    && are_well_made locals slots flows turn && are_well_made locals slots flows rest
are_well_made locals slots flows (TrapThen w rest) = are_well_made locals slots flows rest

-- a body for this many locals (at most 16) and this many flows (at most 8), with at most 256 variables of its own
pub record IsWellBody (locals flows : ℕ) (b : Body) : Type 0 where
  pub locals_at_most : locals ≤ most_locals
  pub flows_at_most : flows ≤ most_flows
  pub slots_hold_locals : locals ≤ b.slots
  pub variables_at_most : b.slots ≤ locals + most_variables
  pub statements : IsTrue (are_well_made locals b.slots flows b.statements)
