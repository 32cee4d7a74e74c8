-- The passes that workers have of a table.
-- Carried by: `impl Board for DepTable` (`IsWorkerPass`); law `an_idle_pass_is_a_workers_pass`.
use Rattle.std.specs.Prelude.{◌≡◌, [], ◌∷◌}
use Rattle.ptg_base.specs.Task.{Task}
use Rattle.dep_iter.specs.Tasks.{IsTask}
use Rattle.dep_table.specs.declared.table.DepTable.{DepTable}
use Rattle.dep_table.specs.Passes.{IsPassOf}
use Rattle.dep_table.specs.Tables.{id_of, job_of}
use Rattle.dep_table.specs.Views.{PassView, shown}

-- a clean pass of this table; if it runs a task, that is a task of the table's job
pub record IsWorkerPass (table : DepTable) (p : PassView) : Type 0 where
  pub of : IsPassOf (id_of table) p
  pub task : (t : Task) → (shown p).running ≡ t ∷ [] → IsTask (job_of table).matched t
