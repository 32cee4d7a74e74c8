-- A table of numbers by task.
use Rattle.std.specs.Prelude.{ℕ, List, unwrap_or}
use Rattle.std.specs.Map.{lookup}
use Rattle.ptg_base.specs.Task.{Task}
use Rattle.ptg_base.specs.TaskComparing.{same_task}

-- the number that a table has for a task: 0 if it has none
abbrev pub number_for : List (Task × ℕ) → Task → ℕ
number_for table t = unwrap_or (lookup (same_task t) table) 0
