-- The live word and the stamps.
-- Carried by: laws of `table_rule`.
use Rattle.std.specs.Prelude.{◌≡◌, ℕ, ◌+◌, ◌<◌, ◌≤◌, ◌==◌, List, length}
use Rattle.ptg_base.specs.Lists.{IsIn}
use Rattle.ptg_base.specs.Task.{Task}
use Rattle.ptg_base.specs.TaskComparing.{same_task}
use Rattle.ptg_base.specs.declared.edge.Edge.{Edge}
use Rattle.plan_core.specs.declared.plan.Plan.{Plan}
use Rattle.dep_iter.specs.Edges.{in_edges}
use Rattle.list_lemmas.specs.Counting.{count, weigh}
use Rattle.flow_meaning.specs.Machine.{SentItem, sender, claim_count}
use Rattle.flow_meaning.specs.Table.{ready_tasks}
use Rattle.shard_meaning.specs.Moment.{Moment}
use Rattle.work_board.specs.declared.record.PassRecord.{PassRecord}
use Rattle.table_rule.specs.Records.{Each}
use Rattle.work_board.specs.Records.{done_by}
use Rattle.work_board.specs.Stamps.{StampedTask}

-- how often a pass has claimed a task
abbrev pub own_claims : PassRecord → Task → ℕ
own_claims v t = claim_count (done_by v) t

-- how often a pass runs a task
abbrev pub own_runs : PassRecord → Task → ℕ
own_runs v t = count (same_task t) v.running

-- how often a pass drew a stamp for a task
abbrev pub own_stamps : PassRecord → Task → ℕ
own_stamps v t = count (λ ((u, stamp) : StampedTask). same_task t u) v.stamps

-- the credit and the stamps of a pass agree with what it did and holds
pub record OwnsLives (v : PassRecord) : Type 0 where
  -- the credit is at most the number of its claims that it no longer runs plus the number of turns that it holds
  pub credit : v.credit + length v.running ≤ length v.claims + length v.turns
  -- the stamps belong to its claims; one may be missing only for a task that it runs
  pub stamps : (t : Task) → own_stamps v t ≤ own_claims v t
  pub stamped : (t : Task) → own_claims v t ≤ own_stamps v t + own_runs v t

-- all stamps that were drawn, by whichever pass
pub record AreStamps (P : Plan) (R : Moment) (stamps : List StampedTask) (word : ℕ) : Type 0 where
  -- the stamp word is their number
  pub drawn : length stamps ≡ word
  -- they are different, and less than the stamp word
  pub differ : (s : ℕ) → count (λ ((t, stamp) : StampedTask). stamp == s) stamps ≤ 1
  pub below : (t : Task) (s : ℕ) → IsIn (t, s) stamps → s < word
  -- the stamp of a task is greater than those of its sources
  pub above_sources : (e : Edge) (s r : ℕ) → IsIn e (in_edges P e.to) → IsIn (e.from, s) stamps → IsIn (e.to, r) stamps
      → s < r
  -- a task that has sent an item has a stamp
  pub senders : (x : SentItem) → IsIn x R.state.sends → (s : ℕ) × IsIn (sender x.item, s) stamps

-- the live word and the stamp word of a table agree with its moment and its passes
pub record AreLive (P : Plan) (R : Moment) (live_word stamp_word : ℕ) (vs : List PassRecord) : Type 0 where
  -- the live word counts the ready tasks, the running ones and the credits
  pub live : live_word ≡ length (ready_tasks P R.state) + length R.running + weigh (λ (v : PassRecord). v.credit) vs
  pub each : Each OwnsLives vs
  pub stamps : List StampedTask
  pub theirs : (f : StampedTask → ℕ) → weigh f stamps ≡ weigh (λ (v : PassRecord). weigh f v.stamps) vs
  pub drawn : AreStamps P R stamps stamp_word
