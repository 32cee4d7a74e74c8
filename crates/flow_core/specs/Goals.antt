-- The goals that one thread keeps for tasks that are not claimed yet.
-- Carried by: inside `run_one`.
use Rattle.std.specs.Prelude.{◌≡◌, ℕ, List, Some}
use Rattle.std.specs.Map.{lookup}
use Rattle.ptg_base.specs.Task.{Task}
use Rattle.ptg_base.specs.TaskComparing.{same_task}
use Rattle.plan_core.specs.declared.plan.Plan.{Plan}
use Rattle.dep_iter.specs.Edges.{goal}

-- each number of the table is the goal of its task
abbrev pub AreGoals : Plan → List (Task × ℕ) → Type 0
AreGoals P table = (t : Task) (n : ℕ) → lookup (same_task t) table ≡ Some n → n ≡ goal P t
