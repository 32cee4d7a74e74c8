-- The desks of the workers of one table.
-- Carried by: inside `prepare` and `run`.
use Rattle.std.specs.Prelude.{◌≡◌, ◌<◌, ℕ, List, [], length, map, Option, Some, Result, Ok, Err, IsSome}
use Rattle.table_rule.specs.Seats.{TableId}
use Rattle.crossbeam_utils.specs.declared.cache_padded.CachePadded.{CachePadded}
use Rattle.crossbeam_utils.specs.Padded.{padded_value}
use Rattle.ptg_base.specs.Lists.{IsIn}
use Rattle.ptg_base.specs.Task.{Task}
use Rattle.ptg_base.specs.declared.memory.OutOfMemory.{OutOfMemory}
use Rattle.plan_core.specs.declared.plan.Plan.{Plan}
use Rattle.work_board.specs.declared.record.PassRecord.{PassRecord}
use Rattle.worker_core.specs.declared.worker.Worked.{Worked}
use Rattle.table_rule.specs.Names.{AreAll}
use Rattle.dep_table.specs.Passes.{IsPassOf}
use Rattle.dep_table.specs.Views.{PassView, shown}
use Rattle.run_pool.specs.declared.desk.Desk.{Desk}
use Rattle.run_pool.specs.Desks.{AreReady}

-- a desk of a run: its pass is a pass of a table
abbrev pub PaddedDesk : Type 0
PaddedDesk = CachePadded (Desk PassView)

-- the pass on a desk
abbrev pub pass_on : PaddedDesk → PassView
pass_on d = (padded_value d).pass

-- the record of the pass on a desk
abbrev pub record_on : PaddedDesk → PassRecord
record_on d = shown (pass_on d)

-- the entries of the log on a desk
abbrev pub log_on : PaddedDesk → List (ℕ × Task)
log_on d = (padded_value d).log.items

-- the pass on a desk has claimed nothing and drawn no stamp, and the log is empty
pub record IsFresh (d : PaddedDesk) : Type 0 where
  pub no_claim : (record_on d).claims ≡ []
  pub no_stamp : (record_on d).stamps ≡ []
  pub no_log : log_on d ≡ []

-- the number of the worker at a desk is below this
abbrev pub IsNumbered : ℕ → PaddedDesk → Type 0
IsNumbered workers d = (padded_value d).hands.number < workers

-- the desks are fresh and ready for tasks of this plan, their workers' numbers are below the number of desks, and the
-- passes on them are all passes of this table
pub record AreSeated (table : TableId) (plan : Plan) (ds : List PaddedDesk) : Type 0 where
  pub ready : AreReady (IsPassOf table) shown plan ds
  pub fresh : (d : PaddedDesk) → IsIn d ds → IsFresh d
  pub numbered : (d : PaddedDesk) → IsIn d ds → IsNumbered (length ds) d
  pub all : AreAll (map record_on ds)

-- the result on a desk, once its worker has one
abbrev pub answer_on : PaddedDesk → Option (Result Worked OutOfMemory)
answer_on d = (padded_value d).answer

-- each worker has left its result
abbrev pub HaveAnswered : List PaddedDesk → Type 0
HaveAnswered ds = (d : PaddedDesk) → IsIn d ds → IsSome (answer_on d)

-- a worker did its work to the end
pub record IsDone (d : PaddedDesk) : Type 0 where
  pub worked : Worked
  pub answer : answer_on d ≡ Some (Ok worked)

-- one of the workers was out of memory
pub record OneWasRefused (ds : List PaddedDesk) : Type 0 where
  pub desk : PaddedDesk
  pub among : IsIn desk ds
  pub refused : OutOfMemory
  pub answer : answer_on desk ≡ Some (Err refused)
