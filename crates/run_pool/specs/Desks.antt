-- What the desks of workers hold, before a run and after it.
-- Carried by: `team`; inside `prepare` and `run`.
use Rattle.std.specs.Prelude.{◌≡◌, ℕ, ◌<◌, Bool, true, false, List, [], length, slice_get, slice_index_or, Option, Some, None, Result, Ok, Err}
use Rattle.crossbeam_utils.specs.declared.cache_padded.CachePadded.{CachePadded}
use Rattle.crossbeam_utils.specs.Padded.{padded_value}
use Rattle.ptg_base.specs.Task.{Task}
use Rattle.ptg_base.specs.declared.memory.OutOfMemory.{OutOfMemory}
use Rattle.plan_core.specs.declared.plan.Plan.{Plan}
use Rattle.coll_data.specs.Data.{Data}
use Rattle.task_run.specs.Bench.{IsBenchOf}
use Rattle.work_board.specs.Looks.{KnowsHalted}
use Rattle.work_board.specs.Records.{IsLaterRecord}
use Rattle.work_board.specs.declared.record.PassRecord.{PassRecord}
use Rattle.worker_core.specs.declared.worker.Worked.{Worked}
use Rattle.worker_core.specs.Working.{HasLogged, HasWorked}
use Rattle.run_pool.specs.declared.desk.Desk.{Desk}

module _ {P : Type 0} (is_pass : P → Type 0) (shown : P → PassRecord) where
  -- a worker may begin: its pass is clean and runs nothing, and its bench is for tasks of this plan
  pub record IsReady (plan : Plan) (d : Desk P) : Type 0 where
    pub pass : is_pass d.pass
    pub idle : (shown d.pass).running ≡ []
    pub bench : IsBenchOf plan d.bench

  -- each desk is ready
  abbrev pub AreReady : Plan → List (CachePadded (Desk P)) → Type 0
  AreReady plan ds = (k : ℕ) (d : CachePadded (Desk P)) → slice_get ds k ≡ Some d → IsReady plan (padded_value d)

-- The board has this plan and these data, and `preloaded` says whether it is preloaded. `lets` says which tasks its
-- gate has let a worker with some number run.
module _ {P : Type 0} (is_pass : P → Type 0) (shown : P → PassRecord) (plan : Plan) (given : Data)
    (lets : ℕ → Task → Type 0) (preloaded : Bool) where
  -- What the result of a worker with this number and this pass says. Ok: the pass has seen quiet, the gate has let the
  -- worker run each task that it claimed, and each claim was followed. Err: the pass knows that the board is halted,
  -- which a preloaded board never is.
  abbrev pub IsAnswerOfPass : ℕ → PassRecord → PassRecord → Option (Result Worked OutOfMemory) → Type 0
  IsAnswerOfPass worker v w None = ⊥
  IsAnswerOfPass worker v w (Some (Ok worked)) = (w.quiet ≡ true) × HasWorked plan given (lets worker) worked.ran v w
  IsAnswerOfPass worker v w (Some (Err refused)) = KnowsHalted w × (preloaded ≡ false)

  -- a worker has worked: its pass is clean and has what it had and maybe more, and its result is on the desk
  pub record HasWorkedAt (d e : Desk P) : Type 0 where
    pub pass : is_pass e.pass
    pub later : IsLaterRecord (shown d.pass) (shown e.pass)
    pub answer : IsAnswerOfPass d.hands.number (shown d.pass) (shown e.pass) e.answer

  -- each worker has worked
  abbrev pub HaveWorked : List (CachePadded (Desk P)) → List (CachePadded (Desk P)) → Type 0
  HaveWorked ds es =
      (k : ℕ) (d : CachePadded (Desk P)) → k < length ds
      → HasWorkedAt (padded_value (slice_index_or ds k d)) (padded_value (slice_index_or es k d))

module _ {P : Type 0} (shown : P → PassRecord) where
  -- the log on a worker's desk has gained the claims of its pass, each with its stamp
  abbrev pub HasLoggedAt : Desk P → Desk P → Type 0
  HasLoggedAt d e = HasLogged true (shown d.pass) (shown e.pass) d.log.items e.log.items

  -- the log on each worker's desk has gained the claims of its pass, each with its stamp
  abbrev pub HaveLogged : List (CachePadded (Desk P)) → List (CachePadded (Desk P)) → Type 0
  HaveLogged ds es =
      (k : ℕ) (d : CachePadded (Desk P)) → k < length ds
      → HasLoggedAt (padded_value (slice_index_or ds k d)) (padded_value (slice_index_or es k d))
