-- What a worker has after a search for a task.
use Rattle.std.specs.Prelude.{◌≡◌, ℕ, List, [], ◌∷◌, ◌++◌, Bool, true, false}
use Rattle.ptg_base.specs.Task.{Task}
use Rattle.plan_core.specs.declared.plan.Plan.{Plan}
use Rattle.coll_data.specs.Data.{Data}
use Rattle.dep_iter.specs.Tasks.{locals_of}
use Rattle.work_board.specs.declared.record.PassRecord.{PassRecord}
use Rattle.work_board.specs.Records.{IsStill, KeepsDone}
use Rattle.work_board.specs.Claims.{AddsClaim, MayStart}
use Rattle.worker_core.specs.declared.claiming.Found.{Found}
use Rattle.worker_core.specs.declared.claiming.Search.{Search}
use Rattle.worker_core.specs.declared.claiming.Search.TheVariants as search

-- The pass claimed this task, which may start on these tiles. These are its locals, and this is its shard; `of` is the
-- shard of each task.
pub record HasGot (P : Plan) (G : Data) (of : Task → ℕ) (f : Found) (v w : PassRecord) : Type 0 where
  pub locals_are : f.locals ≡ locals_of P f.task
  pub shard_is : f.shard ≡ of f.task
  pub may_start : MayStart P G f.task f.arrivals v
  pub added : AddsClaim f.task f.arrivals v w

-- The pass has seen quiet, and nothing else changed but its looks.
pub record IsQuietAfter (v w : PassRecord) : Type 0 where
  pub quiet : w.quiet ≡ true
  pub names : w.names ≡ v.names
  pub running : w.running ≡ v.running
  pub done : KeepsDone v w

-- what the result of one search for a task says, with the place for it
abbrev pub SearchAnswers : Plan → Data → (Task → ℕ) → Search → Found → PassRecord → PassRecord → Type 0
SearchAnswers P G of search.Task f v w = HasGot P G of f v w
SearchAnswers P G of search.Quiet f v w = IsQuietAfter v w
SearchAnswers P G of search.Nothing f v w = IsStill v w

-- The pass claimed the task that is in the place for it; with false, it has seen quiet.
abbrev pub GotOrQuiet : Plan → Data → (Task → ℕ) → Bool → Found → PassRecord → PassRecord → Type 0
GotOrQuiet P G of true f v w = HasGot P G of f v w
GotOrQuiet P G of false f v w = IsQuietAfter v w

-- The pass claimed the found task. If the log keeps what is noted, it has gained the claim with its stamp.
pub record HasGotLogged (P : Plan) (G : Data) (of : Task → ℕ) (keeps : Bool) (f : Found)
    (v w : PassRecord) (old new : List (ℕ × Task)) : Type 0 where
  pub got : HasGot P G of f v w
  pub noted : keeps ≡ true → new ≡ old ++ (got.added.stamp, f.task) ∷ []

-- The pass claimed the task that is in the place for it, and the log has gained the claim; with false, the pass has
-- seen quiet, and the log is the same.
abbrev pub GotLoggedOrQuiet : Plan → Data → (Task → ℕ) → Bool → Bool → Found → PassRecord → PassRecord
    → List (ℕ × Task) → List (ℕ × Task) → Type 0
GotLoggedOrQuiet P G of keeps true f v w old new = HasGotLogged P G of keeps f v w old new
GotLoggedOrQuiet P G of keeps false f v w old new = IsQuietAfter v w × (new ≡ old)
