-- How a worker sends the items of a task, in whatever order. Source: DAGuE (Parallel Computing, 2012), where a task
-- that ends satisfies the dependences of its successors.
use Rattle.std.specs.Prelude.{◌≡◌, List, [], ◌∷◌, ◌++◌, map, Bool, true, false, IsTrue}
use Rattle.ptg_base.specs.Lists.{HasNoRepeats, IsIn}
use Rattle.ptg_base.specs.Task.{Task}
use Rattle.ptg_base.specs.declared.edge.Item.{Item}
use Rattle.ptg_base.specs.declared.edge.Item.TheVariants as item
use Rattle.plan_core.specs.declared.plan.Plan.{Plan}
use Rattle.coll_data.specs.Data.{Data}
use Rattle.list_lemmas.specs.Counting.{HasSameMembers}
use Rattle.dep_iter.specs.Tasks.{IsTask}
use Rattle.dep_iter.specs.Items.{items}
use Rattle.dep_iter.specs.Consistent.{IsConsistent}
use Rattle.flow_meaning.specs.Ending.{has_outputs}
use Rattle.flow_meaning.specs.Backward.{ended}
use Rattle.flow_meaning.specs.Machine.{SentItem, send_count}
use Rattle.flow_meaning.specs.Sound.{with_its_tile}
use Rattle.work_board.specs.declared.record.PassRecord.{PassRecord}
use Rattle.work_board.specs.Records.{IsStill, KeepsNamesAndMarks, done_by}

-- The pass sent these items, each with the tile that its task leaves. Nothing else changes but the looks and the shard
-- taken last.
pub record HasSentAll (P : Plan) (G : Data) (is : List Item) (v w : PassRecord) : Type 0 where
  pub sends : w.sends ≡ v.sends ++ map (with_its_tile P G) is
  pub claims : w.claims ≡ v.claims
  pub stamps : w.stamps ≡ v.stamps
  pub handed : w.handed ≡ v.handed
  pub running : w.running ≡ v.running
  pub kept : KeepsNamesAndMarks v w

-- The pass sent some of the items `old`, each with the tile that its task leaves, and the items `new` are the others.
pub record HasSentFrom (P : Plan) (G : Data) (old new : List Item) (v w : PassRecord) : Type 0 where
  pub sent : List Item
  pub others : HasSameMembers old (sent ++ new)
  pub sends : HasSentAll P G sent v w

-- what one try to send an item says: with true the item was sent, with false nothing was
abbrev pub SentOrStill : Plan → Data → Bool → Item → PassRecord → PassRecord → Type 0
SentOrStill P G true i v w = HasSentAll P G (i ∷ []) v w
SentOrStill P G false i v w = IsStill v w

-- if the item is an edge, its target is a task of the job
abbrev pub GoesToTask : Plan → Item → Type 0
GoesToTask P (item.Edge e) = IsTask P e.to
GoesToTask P (item.Write w) = Unit {0}

-- The pass may send these items one after another. They are different items of the task that it runs, that task has
-- outputs, and none of them was sent yet.
pub record MaySendAll (P : Plan) (G : Data) (t : Task) (is : List Item) (v : PassRecord) : Type 0 where
  pub runs : v.running ≡ t ∷ []
  pub outputs : IsTrue (has_outputs (ended P G t))
  pub are_items : (i : Item) → IsIn i is → IsIn i (items P t)
  pub once : HasNoRepeats is
  pub unsent : (i : Item) → IsIn i is → send_count (done_by v) i ≡ 0

-- The pass runs this task of a consistent job and has sent none of its items.
pub record RunsUnsent (P : Plan) (t : Task) (v : PassRecord) : Type 0 where
  pub runs : v.running ≡ t ∷ []
  pub consistent : IsConsistent P
  pub unsent : (i : Item) → IsIn i (items P t) → send_count (done_by v) i ≡ 0

-- The pass may have sent more items, and has claimed nothing.
pub record HasSentSome (v w : PassRecord) : Type 0 where
  pub more_sends : List SentItem
  pub names : w.names ≡ v.names
  pub claims : w.claims ≡ v.claims
  pub stamps : w.stamps ≡ v.stamps
  pub handed : w.handed ≡ v.handed
  pub sends : w.sends ≡ v.sends ++ more_sends
