-- What a worker has done.
-- Carried by: `work` (`HasWorked`), `work_logged` (`HasLogged`).
use Rattle.std.specs.Prelude.{◌≡◌, ℕ, List, [], ◌++◌, length, map, true, Bool, IsSome}
use Rattle.std.specs.Map.{keys_of}
use Rattle.ptg_base.specs.Lists.{IsIn}
use Rattle.ptg_base.specs.Task.{Task}
use Rattle.plan_core.specs.declared.plan.Plan.{Plan}
use Rattle.coll_data.specs.Data.{Data}
use Rattle.flow_meaning.specs.Backward.{ended}
use Rattle.flow_meaning.specs.Machine.{SentItem}
use Rattle.flow_meaning.specs.Sound.{IsFinished}
use Rattle.work_board.specs.declared.record.PassRecord.{PassRecord}
use Rattle.work_board.specs.Records.{done_by}
use Rattle.work_board.specs.Handed.{HandedTask}
use Rattle.work_board.specs.Stamps.{StampedTask}

-- The pass has these claims more, with their stamps and what was handed out with them, and maybe more sends. Its names
-- stay.
pub record HasClaimedMore (more : List StampedTask) (v w : PassRecord) : Type 0 where
  pub more_handed : List HandedTask
  pub more_sends : List SentItem
  pub names : w.names ≡ v.names
  pub claims : w.claims ≡ v.claims ++ keys_of more
  pub stamps : w.stamps ≡ v.stamps ++ more
  pub handed : w.handed ≡ v.handed ++ more_handed
  pub sends : w.sends ≡ v.sends ++ more_sends

-- Each of these tasks ends in this job, the gate has let it through, and the pass has sent all its items or it traps.
pub record AreFollowed (P : Plan) (G : Data) (lets : Task → Type 0) (tasks : List Task) (w : PassRecord) : Type 0 where
  pub ends : (t : Task) → IsIn t tasks → IsSome (ended P G t)
  pub let_through : (t : Task) → IsIn t tasks → lets t
  pub finished : (t : Task) → IsIn t tasks → IsFinished P G (done_by w) t

-- The pass claimed this many more tasks, followed each claim, and runs nothing.
pub record HasWorked (P : Plan) (G : Data) (lets : Task → Type 0) (ran : ℕ) (v w : PassRecord) : Type 0 where
  pub more : List StampedTask
  pub claimed : HasClaimedMore more v w
  pub counted : length more ≡ ran
  pub followed : AreFollowed P G lets (keys_of more) w
  pub idle : w.running ≡ []

-- The pass ran this task: it followed the claim and runs nothing.
pub record HasRun (P : Plan) (G : Data) (t : Task) (v w : PassRecord) : Type 0 where
  pub idle : w.running ≡ []
  pub finished : IsFinished P G (done_by w) t

-- claims as entries of a log: each stamp before its task
abbrev pub logged : List StampedTask → List (ℕ × Task)
logged claims = map (λ ((t, stamp) : StampedTask). (stamp, t)) claims

-- The pass has new claims. If the log keeps what is noted, it has gained exactly these, each with its stamp.
pub record HasLogged (keeps : Bool) (v w : PassRecord) (old new : List (ℕ × Task)) : Type 0 where
  pub more : List StampedTask
  pub claimed : HasClaimedMore more v w
  pub gained : keeps ≡ true → new ≡ old ++ logged more
