-- Rows of an answer, each of a different task.
-- Carried by: `traps_in_task_order`, `waits_in_task_order`.
-- Tested by: `traps.txt`, `stalls.txt`.
use Rattle.std.specs.Prelude.{◌≤◌, List}
use Rattle.ptg_base.specs.Task.{Task}
use Rattle.ptg_base.specs.TaskComparing.{same_task}
use Rattle.list_lemmas.specs.Counting.{count}

-- each task has at most one of the rows
abbrev pub AreOfDifferentTasks : {A : Type 0} → (A → Task) → List A → Type 0
AreOfDifferentTasks {A} task rows = (t : Task) → count (λ (r : A). same_task t (task r)) rows ≤ 1
