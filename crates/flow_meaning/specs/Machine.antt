-- The event machine of a job, and its quiescence: tasks are claimed and items are sent, in any order in which each
-- event is possible. Source: DAGuE (Parallel Computing, 2012): a task may run once all its dependences have come, and
-- then satisfies those of its successors.
-- Carried by: laws of `flow_meaning`.
use Rattle.std.specs.Prelude.{◌≡◌, ℕ, ℤ, nat_lt, List, [], ◌∷◌, ◌++◌, Bool, IsTrue, Option, None, if◌then◌else◌, ◌&&◌}
use Rattle.std.specs.Option.{option_eq}
use Rattle.std.specs.Ordering.{int_eq}
use Rattle.std.specs.Cmp.Lexicographic.{pointwise}
use Rattle.ptg_base.specs.Lists.{IsIn}
use Rattle.ptg_base.specs.Task.{Task}
use Rattle.ptg_base.specs.TaskComparing.{same_task}
use Rattle.ptg_base.specs.declared.edge.Item.{Item}
use Rattle.ptg_base.specs.declared.edge.Item.TheVariants as item
use Rattle.plan_core.specs.declared.plan.Plan.{Plan}
use Rattle.coll_data.specs.Data.{Data}
use Rattle.dep_iter.specs.Tasks.{IsTask}
use Rattle.dep_iter.specs.Edges.{in_edges, goal}
use Rattle.dep_iter.specs.Items.{items, item_flow}
use Rattle.list_lemmas.specs.Counting.{count}
use Rattle.flow_meaning.specs.Comparing.{same_item}
use Rattle.flow_meaning.specs.Starting.{Delivery}
use Rattle.flow_meaning.specs.Ending.{Ended, has_outputs, output_tile, ended_on}

-- an item that was sent, and the tile that was sent with it; there is none with an edge of a CTL flow
pub record SentItem : Type 0 where
  pub item : Item
  pub tile : Option (List ℤ)

-- an item with the tile that its task leaves in the item's flow, if the task ends so
abbrev pub item_from : Option Ended → Item → SentItem
item_from end i = record { item = i; tile = output_tile end (item_flow i) }

-- whether two tiles are the same, or both absent
abbrev pub same_tile : Option (List ℤ) → Option (List ℤ) → Bool
same_tile = option_eq (pointwise int_eq)

-- whether the same item was sent with the same tile
abbrev pub same_sent_item : SentItem → SentItem → Bool
same_sent_item a b = same_item a.item b.item && same_tile a.tile b.tile

-- what has happened: the tasks that were claimed, and the items that were sent. An event adds to a list at its end. The
-- order of the lists matters to one law alone: that claims are a legal order
pub record MachineState : Type 0 where
  pub claims : List Task
  pub sends : List SentItem

-- nothing has happened
abbrev pub opening_state : MachineState
opening_state = record { claims = []; sends = [] }

-- the task that sends an item
abbrev pub sender : Item → Task
sender (item.Edge e) = e.from
sender (item.Write w) = w.from

-- how often a task was claimed
abbrev pub claim_count : MachineState → Task → ℕ
claim_count S t = count (same_task t) S.claims

-- how often an item was sent, with whatever tile
abbrev pub send_count : MachineState → Item → ℕ
send_count S i = count (λ (x : SentItem). same_item i x.item) S.sends

-- whether an item was sent
abbrev pub is_sent : MachineState → Item → Bool
is_sent S i = nat_lt 0 (send_count S i)

-- how many of the edges into a task were sent
abbrev pub arrived : Plan → MachineState → Task → ℕ
arrived P S t = count (λ e. is_sent S (item.Edge e)) (in_edges P t)

-- the tile that was sent first with an item
abbrev pub first_tile : Item → List SentItem → Option (List ℤ)
first_tile i [] = None
first_tile i (x ∷ xs) = if same_item i x.item then x.tile else first_tile i xs

-- what each edge delivers if these items were sent: the tile that was first sent with it. In a sound state an edge is
-- sent at most once
abbrev pub sent_tile : List SentItem → Delivery
sent_tile sends e = first_tile (item.Edge e) sends

-- how a task ends on the tiles that were sent to it
abbrev pub end_in : Plan → Data → MachineState → Task → Option Ended
end_in P G S t = ended_on P G (sent_tile S.sends) t

-- a task is claimed, or an item is sent
pub data Event : Type 0 where
  Claim : Task → Event
  Send : Item → Event

-- a task that was not claimed may be claimed once all edges into it were sent
pub record MayClaim (P : Plan) (S : MachineState) (t : Task) : Type 0 where
  pub task : IsTask P t
  pub unclaimed : claim_count S t ≡ 0
  pub all_arrived : arrived P S t ≡ goal P t

-- an item that was not sent may be sent once its task was claimed, if the task has outputs on the tiles that were sent
-- to it
pub record MaySend (P : Plan) (G : Data) (S : MachineState) (i : Item) : Type 0 where
  pub unsent : send_count S i ≡ 0
  pub claimed : IsIn (sender i) S.claims
  pub is_item : IsIn i (items P (sender i))
  pub outputs : IsTrue (has_outputs (end_in P G S (sender i)))

-- an event is possible in a state
abbrev pub IsPossible : Plan → Data → MachineState → Event → Type 0
IsPossible P G S (Claim t) = MayClaim P S t
IsPossible P G S (Send i) = MaySend P G S i

-- what is sent with an item: the tile that its task leaves in the flow of the item
abbrev pub sent_with : Plan → Data → MachineState → Item → SentItem
sent_with P G S i = item_from (end_in P G S (sender i)) i

-- the state after an event
abbrev pub state_after : Plan → Data → MachineState → Event → MachineState
state_after P G S (Claim t) = record { claims = S.claims ++ t ∷ []; sends = S.sends }
state_after P G S (Send i) = record { claims = S.claims; sends = S.sends ++ sent_with P G S i ∷ [] }

-- these events happen one after another, each when it is possible, and lead from one state to another
abbrev pub Happen : Plan → Data → List Event → MachineState → MachineState → Type 0
Happen P G [] S T = S ≡ T
Happen P G (e ∷ es) S T = IsPossible P G S e × Happen P G es (state_after P G S e) T

-- no event is possible
abbrev pub IsQuiescent : Plan → Data → MachineState → Type 0
IsQuiescent P G S = (e : Event) → IsPossible P G S e → ⊥

-- nothing is undone: the second state has what the first has, and maybe more
pub record IsLater (S T : MachineState) : Type 0 where
  pub more_claims : List Task
  pub more_sends : List SentItem
  pub claims : T.claims ≡ S.claims ++ more_claims
  pub sends : T.sends ≡ S.sends ++ more_sends
