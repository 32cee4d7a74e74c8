-- What the result of a send says, what a send needs, and how it changes the record of its pass; the same for the end of
-- a task. Source: DAGuE (Parallel Computing, 2012), where a task that ends satisfies the dependences of its successors;
-- the results are this project's own choice.
-- Carried by: `Board::try_send` (`SendAnswers`, `IsNext`), `Board::try_end`, `Board::try_trap` (`EndAnswers`).
use Rattle.std.specs.Prelude.{◌≡◌, ℕ, ◌+◌, ◌<◌, ℤ, true, false, Bool, List, [], ◌∷◌, ◌++◌, Option, Err, Some, IsTrue}
use Rattle.std.specs.Option.{option_map_or}
use Rattle.ptg_base.specs.Entry.{Entry, FlowTile}
use Rattle.ptg_base.specs.Lists.{IsIn}
use Rattle.ptg_base.specs.Task.{Task}
use Rattle.ptg_base.specs.declared.edge.Item.{Item}
use Rattle.ptg_base.specs.declared.edge.Item.TheVariants as item
use Rattle.term_core.specs.declared.trap.Trap.{Trap}
use Rattle.plan_core.specs.declared.plan.Plan.{Plan}
use Rattle.coll_data.specs.Data.{Data}
use Rattle.dep_iter.specs.Edges.{goal}
use Rattle.dep_iter.specs.Items.{item_flow, items}
use Rattle.dep_shard.specs.Content.{Content, entry_of}
use Rattle.flow_meaning.specs.Ending.{has_outputs, output_tile}
use Rattle.flow_meaning.specs.Backward.{ended}
use Rattle.flow_meaning.specs.Machine.{is_sent, send_count, sender}
use Rattle.work_board.specs.declared.record.PassRecord.{PassRecord}
use Rattle.work_board.specs.declared.answers.Sent.{Sent}
use Rattle.work_board.specs.declared.answers.Sent.TheVariants as answer
use Rattle.work_board.specs.Records.{FoundBusy, KeepsDone, KeepsNamesAndMarks, TookShard, done_by}
use Rattle.work_board.specs.Word.{Turn}

-- The pass may send the item with this tile. The item belongs to the task that the pass runs, and that task has
-- outputs. The item was not sent yet, and the tile is the one that the task leaves in the item's flow.
pub record IsNext (P : Plan) (G : Data) (i : Item) (sent_tile : Option (List ℤ)) (v : PassRecord) : Type 0 where
  pub runs : v.running ≡ sender i ∷ []
  pub is_item : IsIn i (items P (sender i))
  pub outputs : IsTrue (has_outputs (ended P G (sender i)))
  pub unsent : send_count (done_by v) i ≡ 0
  pub tile : sent_tile ≡ output_tile (ended P G (sender i)) (item_flow i)

-- the shard that handles an item: for an edge that of its target, for a write-back that of its task
abbrev pub shard_of_item : (Task → ℕ) → Item → ℕ
shard_of_item of (item.Edge e) = of e.to
shard_of_item of (item.Write w) = of w.from

-- the item is added to the sends with its tile. Nothing else changes but the looks and the shard taken last
pub record AddsSend (i : Item) (tile : Option (List ℤ)) (v w : PassRecord) : Type 0 where
  pub sends : w.sends ≡ v.sends ++ record { item = i; tile = tile } ∷ []
  pub claims : w.claims ≡ v.claims
  pub stamps : w.stamps ≡ v.stamps
  pub handed : w.handed ≡ v.handed
  pub running : w.running ≡ v.running
  pub kept : KeepsNamesAndMarks v w

-- how many edges have come to a task, according to its entry in a shard; 0 if it has none
abbrev pub arrived_in : Content → Task → ℕ
arrived_in y t = option_map_or (λ (e : Entry). e.arrived) (entry_of y t) 0

-- the result for an item, by what the shard had: a write-back is kept. An edge fires its target if it was the last edge
-- that the target waited for, and otherwise the target still waits
abbrev pub AnswersFor : Plan → Content → Item → Sent → Type 0
AnswersFor P y (item.Edge e) answer.Fired = arrived_in y e.to + 1 ≡ goal P e.to
AnswersFor P y (item.Edge e) answer.Waits = arrived_in y e.to + 1 < goal P e.to
AnswersFor P y (item.Edge e) answer.Kept = ⊥
AnswersFor P y (item.Edge e) answer.Busy = ⊥
AnswersFor P y (item.Write w) answer.Kept = Unit {0}
AnswersFor P y (item.Write w) answer.Fired = ⊥
AnswersFor P y (item.Write w) answer.Waits = ⊥
AnswersFor P y (item.Write w) answer.Busy = ⊥

-- The pass sent the item with this tile under the turn of shard k, and the result agrees with what the shard had.
pub record HasSent (P : Plan) (k : ℕ) (i : Item) (tile : Option (List ℤ)) (a : Sent) (v w : PassRecord) : Type 0 where
  pub shard : Content
  pub took : TookShard k shard v w
  pub answer : AnswersFor P shard i a
  pub added : AddsSend i tile v w

-- what the result of a send says, if the item belongs to shard k
abbrev pub SendAnswers : Plan → ℕ → Item → Option (List ℤ) → Sent → PassRecord → PassRecord → Type 0
SendAnswers P k i tile answer.Waits v w = HasSent P k i tile answer.Waits v w
SendAnswers P k i tile answer.Fired v w = HasSent P k i tile answer.Fired v w
SendAnswers P k i tile answer.Kept v w = HasSent P k i tile answer.Kept v w
SendAnswers P k i tile answer.Busy v w = FoundBusy (Turn k) v w

-- The task may end: the pass runs it, it has outputs, and the pass has sent all its items.
pub record MayEnd (P : Plan) (G : Data) (t : Task) (v : PassRecord) : Type 0 where
  pub runs : v.running ≡ t ∷ []
  pub outputs : IsTrue (has_outputs (ended P G t))
  pub sent : (i : Item) → IsIn i (items P t) → IsTrue (is_sent (done_by v) i)

-- The task may trap with this cause: the pass runs it, and it ends with this trap.
pub record MayTrap (P : Plan) (G : Data) (t : Task) (cause : Trap) (v : PassRecord) : Type 0 where
  pub runs : v.running ≡ t ∷ []
  pub traps : ended P G t ≡ Some (Err cause)

-- The pass runs nothing any more. Nothing else changes but the looks and the shard taken last.
pub record HasEndedOnly (v w : PassRecord) : Type 0 where
  pub running : w.running ≡ []
  pub done : KeepsDone v w
  pub kept : KeepsNamesAndMarks v w

-- The pass runs nothing any more, and took the turn of shard k to end its task.
pub record HasEnded (k : ℕ) (v w : PassRecord) : Type 0 where
  pub shard : Content
  pub took : TookShard k shard v w
  pub end : HasEndedOnly v w

-- what the result of an end or a trap says, if the task belongs to shard k: false means that the turn was taken already
abbrev pub EndAnswers : Bool → ℕ → PassRecord → PassRecord → Type 0
EndAnswers true k v w = HasEnded k v w
EndAnswers false k v w = FoundBusy (Turn k) v w

-- What becomes of the tiles that came with a task when it ends. With false, all of them stay. With true, the board may
-- have kept or dropped some or all of them, and each that is left is one of them.
abbrev pub SpentAfter : Bool → List FlowTile → List FlowTile → Type 0
SpentAfter true old new = (x : FlowTile) → IsIn x new → IsIn x old
SpentAfter false old new = new ≡ old
