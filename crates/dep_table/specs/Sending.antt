-- A send on a turn: what an item needs of its shard, and what the result of the send means for the pass's credit.
-- Carried by: inside `Turn::send`.
use Rattle.std.specs.Prelude.{◌≡◌, ℕ, ◌+◌, ℤ, List, Option}
use Rattle.ptg_base.specs.declared.edge.Edge.{Edge}
use Rattle.ptg_base.specs.declared.edge.Item.{Item}
use Rattle.ptg_base.specs.declared.edge.Item.TheVariants as item
use Rattle.plan_core.specs.declared.plan.Plan.{Plan}
use Rattle.dep_iter.specs.Edges.{goal}
use Rattle.dep_shard.specs.Content.{Content}
use Rattle.dep_shard.specs.declared.shard.Arrived.{Arrived}
use Rattle.dep_shard.specs.declared.shard.Arrived.TheVariants as arrived
use Rattle.work_board.specs.declared.answers.Sent.{Sent}
use Rattle.work_board.specs.declared.answers.Sent.TheVariants as answer
use Rattle.work_board.specs.declared.record.PassRecord.{PassRecord}
use Rattle.shard_calls.specs.Taken.{HasSpareForEdge, HasSpareForWrite, MayTakeEdge, MayTakeWrite}
use Rattle.shard_meaning.specs.Share.{entry_found}

-- the entry that an edge finds in its shard waits for as many edges as go into its target
abbrev pub FindsGoal : Plan → Edge → Content → Type 0
FindsGoal P e y = (entry_found P e y).goal ≡ goal P e.to

-- what an item needs of its shard
abbrev pub MayTakeItem : Plan → Item → Option (List ℤ) → Content → Type 0
MayTakeItem P (item.Edge e) tile y = MayTakeEdge P e tile y × FindsGoal P e y
MayTakeItem P (item.Write w) tile y = MayTakeWrite P w tile y

-- the shard has the spares that an item needs
abbrev pub HasSpareForItem : Plan → Item → Option (List ℤ) → Content → Type 0
HasSpareForItem P (item.Edge e) tile y = HasSpareForEdge P e tile y
HasSpareForItem P (item.Write w) tile y = HasSpareForWrite P w y

-- what a send returns if this became of the target
abbrev pub answer_of : Arrived → Sent
answer_of arrived.Waits = answer.Waits
answer_of arrived.Fired = answer.Fired

-- the credit of a pass after the live word was raised for a send with this result: one more if the target fires
abbrev pub credit_after : Sent → ℕ → ℕ
credit_after answer.Waits n = n
credit_after answer.Fired n = n + 1
credit_after answer.Kept n = n
credit_after answer.Busy n = n

-- a pass with that credit
abbrev pub credited : Sent → PassRecord → PassRecord
credited a v = record v { credit = credit_after a v.credit }
