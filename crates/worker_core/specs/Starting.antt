-- A claimed task that is about to run.
use Rattle.std.specs.Prelude.{◌≡◌, ℕ, [], ◌∷◌}
use Rattle.ptg_base.specs.Task.{Task}
use Rattle.plan_core.specs.declared.plan.Plan.{Plan}
use Rattle.coll_data.specs.Data.{Data}
use Rattle.dep_iter.specs.Tasks.{locals_of}
use Rattle.work_board.specs.declared.record.PassRecord.{PassRecord}
use Rattle.work_board.specs.Claims.{MayStart}
use Rattle.worker_core.specs.declared.claiming.Found.{Found}

-- The pass runs this task, which may start on these tiles. These are its locals, and this is its shard; `of` is the
-- shard of each task.
pub record HasStarted (P : Plan) (G : Data) (of : Task → ℕ) (f : Found) (v : PassRecord) : Type 0 where
  pub running : v.running ≡ f.task ∷ []
  pub locals_are : f.locals ≡ locals_of P f.task
  pub shard_is : f.shard ≡ of f.task
  pub may_start : MayStart P G f.task f.arrivals v
