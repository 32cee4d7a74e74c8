-- What the result of a claim says, and how a claim changes the record of its pass. Source: DAGuE (Parallel Computing,
-- 2012), where a worker takes a ready task from the table; the results are this project's own choice.
-- Carried by: `Board::try_claim` (`ClaimAnswers`), `Board::try_scan` (`ScanAnswers`).
use Rattle.std.specs.Prelude.{◌≡◌, ℕ, List, [], ◌∷◌, ◌++◌}
use Rattle.ptg_base.specs.Entry.{FlowTile}
use Rattle.ptg_base.specs.Lists.{IsIn}
use Rattle.ptg_base.specs.Task.{Task}
use Rattle.ptg_base.specs.declared.edge.Item.{Item}
use Rattle.plan_core.specs.declared.plan.Plan.{Plan}
use Rattle.coll_data.specs.Data.{Data}
use Rattle.dep_iter.specs.Tasks.{IsTask}
use Rattle.dep_iter.specs.Items.{items}
use Rattle.dep_shard.specs.Content.{Content, HasNoReady, HasNoReadyOf, HasReady, IsBest}
use Rattle.flow_meaning.specs.Backward.{MayRun}
use Rattle.flow_meaning.specs.Machine.{send_count}
use Rattle.work_board.specs.declared.record.PassRecord.{PassRecord}
use Rattle.work_board.specs.declared.answers.Claim.{Claim}
use Rattle.work_board.specs.declared.answers.Claim.TheVariants as claim
use Rattle.work_board.specs.declared.answers.Scan.{Scan}
use Rattle.work_board.specs.declared.answers.Scan.TheVariants as scan
use Rattle.work_board.specs.Records.{FoundBusy, IsStill, KeepsNamesAndMarks, TookShard, done_by}
use Rattle.work_board.specs.Word.{Turn}

-- A task that may start, with the tiles that it starts on. It runs in this job, the tiles are its inputs, and the pass
-- has sent none of its items.
pub record MayStart (P : Plan) (G : Data) (t : Task) (tiles : List FlowTile) (v : PassRecord) : Type 0 where
  pub task : IsTask P t
  pub run : MayRun P G t tiles
  pub unsent : (i : Item) → IsIn i (items P t) → send_count (done_by v) i ≡ 0

-- The claim is added to the record with its stamp and with the tiles that were handed out, and its task runs. Nothing
-- else changes but the looks and the shard taken last.
pub record AddsClaim (t : Task) (tiles : List FlowTile) (v w : PassRecord) : Type 0 where
  pub stamp : ℕ
  pub claims : w.claims ≡ v.claims ++ t ∷ []
  pub handed : w.handed ≡ v.handed ++ (t, tiles) ∷ []
  pub stamps : w.stamps ≡ v.stamps ++ (t, stamp) ∷ []
  pub running : w.running ≡ t ∷ []
  pub sends : w.sends ≡ v.sends
  pub kept : KeepsNamesAndMarks v w

-- The pass claimed a task of shard k: the shard had its ready entry, with the tiles that the task starts on.
pub record HasClaimed (P : Plan) (G : Data) (k : ℕ) (t : Task) (tiles : List FlowTile) (v w : PassRecord) : Type 0 where
  pub shard : Content
  pub took : TookShard k shard v w
  pub ready : HasReady shard t tiles
  pub may_start : MayStart P G t tiles v
  pub added : AddsClaim t tiles v w

-- The task had no ready entry in shard k, and nothing changed but the looks and the shard taken last.
pub record FoundGone (k : ℕ) (t : Task) (v w : PassRecord) : Type 0 where
  pub shard : Content
  pub took : TookShard k shard v w
  pub gone : HasNoReadyOf shard t
  pub still : IsStill v w

-- what the result of a claim of task t says, if t belongs to shard k
abbrev pub ClaimAnswers : Plan → Data → ℕ → Task → Claim → PassRecord → PassRecord → Type 0
ClaimAnswers P G k t (claim.Got tiles) v w = HasClaimed P G k t tiles v w
ClaimAnswers P G k t claim.Gone v w = FoundGone k t v w
ClaimAnswers P G k t claim.Busy v w = FoundBusy (Turn k) v w

-- The pass claimed the best ready task of shard k.
pub record HasClaimedBest (P : Plan) (G : Data) (k : ℕ) (t : Task) (tiles : List FlowTile)
    (v w : PassRecord) : Type 0 where
  pub claimed : HasClaimed P G k t tiles v w
  pub best : IsBest claimed.shard.entries t

-- Shard k had no ready entry, and nothing changed but the looks and the shard taken last.
pub record FoundNoReady (k : ℕ) (v w : PassRecord) : Type 0 where
  pub shard : Content
  pub took : TookShard k shard v w
  pub empty : HasNoReady shard.entries
  pub still : IsStill v w

-- what the result of a scan of shard k says; `of` is the shard of each task
abbrev pub ScanAnswers : Plan → Data → (Task → ℕ) → ℕ → Scan → PassRecord → PassRecord → Type 0
ScanAnswers P G of k (scan.Got t tiles) v w = (of t ≡ k) × HasClaimedBest P G k t tiles v w
ScanAnswers P G of k scan.Empty v w = FoundNoReady k v w
ScanAnswers P G of k scan.Busy v w = FoundBusy (Turn k) v w
