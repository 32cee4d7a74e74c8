-- A call that tries to take one turn: what is said of that turn's table and shard is true of those of the call.
use Rattle.std.proofs.Common.{◌≡◌, ℕ, List, ℤ, Option, None, Some, Result, Ok, Err, IfOk, OnErr, IfNone, subst}
use Rattle.ptg_base.specs.Entry.{FlowTile}
use Rattle.ptg_base.specs.Task.{Task}
use Rattle.ptg_base.specs.declared.edge.Item.{Item}
use Rattle.ptg_base.specs.declared.edge.Item.TheVariants as item
use Rattle.plan_core.specs.declared.plan.Plan.{Plan}
use Rattle.dep_shard.specs.Content.{Content}
use Rattle.work_board.specs.declared.answers.Sent.{Sent}
use Rattle.work_board.specs.declared.answers.Sent.TheVariants as answer
use Rattle.work_board.specs.declared.record.PassRecord.{PassRecord}
use Rattle.work_board.specs.Claims.{FoundGone, HasClaimed, HasClaimedBest}
use Rattle.work_board.specs.Records.{OnlyTook}
use Rattle.work_board.specs.Sends.{HasEnded, HasSent, SendAnswers}
use Rattle.dep_table.specs.declared.table.DepTable.{DepTable}
use Rattle.dep_table.specs.declared.turn.Turn.{Turn}
use Rattle.dep_table.specs.Tables.{job_of}
use Rattle.dep_table.specs.Turns.{IsTurnOf}

-- what is said of the turn's table and shard is true of these
module _ (b c : DepTable) (e : b ≡ c) (k n : ℕ) (f : k ≡ n) (v w : PassRecord) where
  pub claimed_at : (x : Task) (tiles : List FlowTile) → HasClaimed (job_of b).matched (job_of b).given k x tiles v w
      → HasClaimed (job_of c).matched (job_of c).given n x tiles v w
  claimed_at x tiles h = subst (λ m. HasClaimed (job_of c).matched (job_of c).given m x tiles v w) f
      (subst (λ d. HasClaimed (job_of d).matched (job_of d).given k x tiles v w) e h)

  pub best_claimed_at : (x : Task) (tiles : List FlowTile) → HasClaimedBest (job_of b).matched (job_of b).given k x
      tiles v w → HasClaimedBest (job_of c).matched (job_of c).given n x tiles v w
  best_claimed_at x tiles h = subst (λ m. HasClaimedBest (job_of c).matched (job_of c).given m x tiles v w) f
      (subst (λ d. HasClaimedBest (job_of d).matched (job_of d).given k x tiles v w) e h)

  pub sent_at : (i : Item) (tile : Option (List ℤ)) (a : Sent) → HasSent (job_of b).matched k i tile a v w → HasSent (job_of c).matched n i tile a v w
  sent_at i tile a h = subst (λ m. HasSent (job_of c).matched m i tile a v w) f (subst (λ d. HasSent (job_of d).matched k i tile a v w) e h)

-- the same of the shard alone
module _ (k n : ℕ) (f : k ≡ n) (v w : PassRecord) where
  pub gone_at : (x : Task) → FoundGone k x v w → FoundGone n x v w
  gone_at x = subst (λ m. FoundGone m x v w) f

  pub ended_at : HasEnded k v w → HasEnded n v w
  ended_at = subst (λ m. HasEnded m v w) f

  pub took_at : OnlyTook k v w → OnlyTook n v w
  took_at = subst (λ m. OnlyTook m v w) f

-- an item that was sent was not found busy
pub sent_as : (P : Plan) (k : ℕ) (i : Item) (tile : Option (List ℤ)) (a : Sent) (v w : PassRecord) → HasSent P k i tile a v w → SendAnswers P k i tile a v w
sent_as P k i tile answer.Waits v w h = h
sent_as P k i tile answer.Fired v w h = h
sent_as P k i tile answer.Kept v w h = h
sent_as P k (item.Edge e) tile answer.Busy v w h = absurd h.answer
sent_as P k (item.Write x) tile answer.Busy v w h = absurd h.answer

-- what the result of a send says, also if it is out of memory
module _ (t : Turn) (v : PassRecord) (y z : Content) (h : IsTurnOf t v y z) (b c : DepTable) (e : b ≡ c) (k n : ℕ) (f : k ≡ n) (w : PassRecord) where
  pub sent_in : {E : Type 0} (i : Item) (tile : Option (List ℤ)) (r : Result Sent E)
      → IfOk r (λ a. (u : PassRecord) → (x x' : Content) → IsTurnOf t u x x'
      → HasSent (job_of b).matched k i tile a u w)
      → IfOk r (λ a. SendAnswers (job_of c).matched n i tile a v w)
  sent_in i tile (Ok a) s = sent_as (job_of c).matched n i tile a v w (sent_at b c e k n f v w i tile a (s v y z h))
  sent_in i tile (Err x) s = s

  pub took_in : {A E : Type 0} (r : Result A E) → OnErr r ((u : PassRecord) → (x x' : Content) → IsTurnOf t u x x' → OnlyTook k u w) → OnErr r (OnlyTook n v w)
  took_in (Ok a) s = s
  took_in (Err x) s = took_at k n f v w (s v y z h)

pub if_none : {A X Y : Type 0} → (X → Y) → (o : Option A) → IfNone o X → IfNone o Y
if_none f None h = f h
if_none f (Some a) h = h
