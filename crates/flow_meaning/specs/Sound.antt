-- Sound states of the event machine: what is claimed may run, and what is sent is what the backward meaning says.
-- Carried by: laws of `flow_meaning`.
use Rattle.std.specs.Prelude.{◌≡◌, ◌≤◌, ◌⊎◌, List, IsTrue, IsFalse}
use Rattle.ptg_base.specs.Lists.{IsIn}
use Rattle.ptg_base.specs.Task.{Task}
use Rattle.ptg_base.specs.declared.edge.Item.{Item}
use Rattle.plan_core.specs.declared.plan.Plan.{Plan}
use Rattle.coll_data.specs.Data.{Data}
use Rattle.dep_iter.specs.Tasks.{IsTask}
use Rattle.dep_iter.specs.Edges.{goal}
use Rattle.dep_iter.specs.Items.{items, item_flow}
use Rattle.list_lemmas.specs.Counting.{HasSameMembers}
use Rattle.flow_meaning.specs.Ending.{has_outputs, output_tile}
use Rattle.flow_meaning.specs.Backward.{ended}
use Rattle.flow_meaning.specs.Machine.{Event, Happen, MachineState, MayClaim, SentItem, arrived, claim_count, is_sent, opening_state, send_count}
use Rattle.flow_meaning.specs.Machine.{sender, item_from}

-- all edges into a task of the job were sent
pub record HasAllArrived (P : Plan) (S : MachineState) (t : Task) : Type 0 where
  pub task : IsTask P t
  pub all_arrived : arrived P S t ≡ goal P t

-- an item with the tile that its task leaves in the flow of the item
abbrev pub with_its_tile : Plan → Data → Item → SentItem
with_its_tile P G i = item_from (ended P G (sender i)) i

-- an item of a claimed task was sent: by the backward meaning the task has outputs, and leaves this tile in the item's
-- flow
pub record IsOutput (P : Plan) (G : Data) (S : MachineState) (x : SentItem) : Type 0 where
  pub claimed : IsIn (sender x.item) S.claims
  pub is_item : IsIn x.item (items P (sender x.item))
  pub outputs : IsTrue (has_outputs (ended P G (sender x.item)))
  pub tile : x.tile ≡ output_tile (ended P G (sender x.item)) (item_flow x.item)

-- a sound state: what is claimed may run, and what is sent is what the backward meaning says
pub record IsSoundState (P : Plan) (G : Data) (S : MachineState) : Type 0 where
  -- no task is claimed twice, and no item is sent twice
  pub claimed_once : (t : Task) → claim_count S t ≤ 1
  pub sent_once : (i : Item) → send_count S i ≤ 1
  pub claimed_have_all : (t : Task) → IsIn t S.claims → HasAllArrived P S t
  pub sent_are_outputs : (x : SentItem) → IsIn x S.sends → IsOutput P G S x

-- the same tasks are claimed and the same items sent with the same tiles, in whatever order
pub record IsReordered (S T : MachineState) : Type 0 where
  pub claims : HasSameMembers S.claims T.claims
  pub sends : HasSameMembers S.sends T.sends

-- some list of events leads from the opening state to this state, up to the order of its two lists
pub record IsReached (P : Plan) (G : Data) (S : MachineState) : Type 0 where
  pub events : List Event
  pub state : MachineState
  pub happen : Happen P G events opening_state state
  pub same : IsReordered S state

-- a claimed task is finished: it traps, or all its items were sent
abbrev pub IsFinished : Plan → Data → MachineState → Task → Type 0
IsFinished P G S t = IsFalse (has_outputs (ended P G t)) ⊎ ((i : Item) → IsIn i (items P t) → IsTrue (is_sent S i))

-- no task may be claimed, and each claimed task is finished
pub record IsAtRest (P : Plan) (G : Data) (S : MachineState) : Type 0 where
  pub none_ready : (t : Task) → MayClaim P S t → ⊥
  pub all_finished : (t : Task) → IsIn t S.claims → IsFinished P G S t
