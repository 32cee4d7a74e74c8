-- How a fault is named: by its code, and by the class, the numbers and the flow at which it is found.
-- Carried by: `match_edges`; laws `a_consistent_plan_has_no_fault`, `edge_laws::a_plan_has_one_first_fault`,
-- `edge_laws::a_plan_is_consistent_or_has_a_first_fault`, `edge_laws::a_first_fault_names_what_exists`.
-- Tested by: `check_codes.txt`, `check_limits.txt`.
use Rattle.std.specs.Prelude.{ℕ, [], Option, None}
use Rattle.ptg_base.specs.Task.{Task}
use Rattle.range_space.specs.declared.fault.SpaceFault.{SpaceFault}
use Rattle.range_space.specs.declared.fault.SpaceFault.TheVariants.{BadExpr, TooManyTasks}
use Rattle.edge_match.specs.declared.fault.MatchCode.{MatchCode}
use Rattle.edge_match.specs.declared.fault.MatchCode.TheVariants as code
use Rattle.edge_match.specs.declared.fault.MatchFault.{MatchFault}

-- the fault with this code of a task, or of one of its flows
abbrev pub fault_at : MatchCode → Task → Option ℕ → MatchFault
fault_at c t flow = record { code = c; class = t.class; numbers = t.params; flow = flow }

-- a fault of the walk through the spaces
abbrev pub space_fault : SpaceFault → MatchFault
space_fault (BadExpr class outer) = record { code = code.BadExpr; class = class; numbers = outer; flow = None }
space_fault (TooManyTasks class) = record { code = code.TooManyTasks; class = class; numbers = []; flow = None }
