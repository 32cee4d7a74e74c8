-- A world of ranks, with its messages, events and quiescence: the tasks of a job are shared out to ranks by their
-- affinity. An edge between two ranks is a message, which may come late, twice and in any order. Source: PaRSEC (2013),
-- where a task runs on the rank that has the data of its affinity, and the runtime sends a message for an edge between
-- ranks.
-- Carried by: `World::rank_of`, `World::run`, `World::deliver`, `World::quiescent`; laws of `rank_core`.
-- Tested by: `run_orders`, `ranks.txt`.
use Rattle.std.specs.Prelude.{◌≡◌, ℕ, ◌<◌, ◌==◌, List, [], ◌∷◌, ◌++◌, map, filter, length, slice_get, Bool, not, IsTrue}
use Rattle.std.specs.Prelude.{Option, if◌then◌else◌}
use Rattle.std.specs.Option.{option_map_or}
use Rattle.ptg_base.specs.Lists.{IsIn}
use Rattle.ptg_base.specs.Task.{Task}
use Rattle.ptg_base.specs.declared.edge.Edge.{Edge}
use Rattle.ptg_base.specs.declared.edge.Item.{Item}
use Rattle.ptg_base.specs.declared.edge.Item.TheVariants as item
use Rattle.plan_core.specs.declared.plan.Plan.{Plan}
use Rattle.coll_data.specs.Data.{Data}
use Rattle.dep_iter.specs.Items.{out_edges, write_backs}
use Rattle.flow_meaning.specs.Ending.{Ended, has_outputs, output_tile}
use Rattle.flow_meaning.specs.Machine.{MachineState, MayClaim, SentItem, end_in, is_sent, opening_state, item_from}
use Rattle.shard_meaning.specs.Placing.{home_of}
use Rattle.shard_meaning.specs.Share.{Placement}
use Rattle.rank_core.specs.declared.message.Message.{Message}

-- the rank of a task among r ranks: that of the place of its affinity
abbrev pub rank_of : Plan → ℕ → Placement
rank_of P r = home_of P r

-- whether an edge goes from one rank to another
abbrev pub is_between : Plan → ℕ → Edge → Bool
is_between P r e = not (rank_of P r e.from == rank_of P r e.to)

-- the edges out of a task to its own rank, in the text's order
abbrev pub edges_within : Plan → ℕ → Task → List Edge
edges_within P r t = filter (λ e. not (is_between P r e)) (out_edges P t)

-- the edges out of a task to other ranks, in the text's order
abbrev pub edges_between : Plan → ℕ → Task → List Edge
edges_between P r t = filter (is_between P r) (out_edges P t)

-- the items of a task that need no message: its write-backs, and its edges to its own rank
abbrev pub items_within : Plan → ℕ → Task → List Item
items_within P r t = map item.Write (write_backs P t) ++ map item.Edge (edges_within P r t)

-- the message of an edge, with the tile that its task leaves in the flow if the task ends so
abbrev pub message_from : Option Ended → Edge → Message
message_from end e = record { edge = e; tile = output_tile end e.out_flow }

-- the items of a task that are sent within its rank as soon as it has ended so: none if it traps
abbrev pub items_by : Plan → ℕ → Task → Option Ended → List SentItem
items_by P r t end = if has_outputs end then map (item_from end) (items_within P r t) else []

-- the messages that a task sends when it has ended so: none if it traps
abbrev pub messages_by : Plan → ℕ → Task → Option Ended → List Message
messages_by P r t end = if has_outputs end then map (message_from end) (edges_between P r t) else []

-- a world: a state of the event machine, whose claimed tasks are those that ran and whose sent items are those that
-- were sent within a rank or delivered; and the messages that were sent, numbered from 0
pub record WorldState : Type 0 where
  pub machine : MachineState
  pub messages : List Message

-- nothing has happened
abbrev pub opening_world : WorldState
opening_world = record { machine = opening_state; messages = [] }

-- a task runs, or the network delivers the message of a number
pub data WorldEvent : Type 0 where
  Run : Task → WorldEvent
  Deliver : ℕ → WorldEvent

-- a task that has not run may run once all edges into it were sent within its rank or delivered; a message that was
-- sent may be delivered, any number of times
abbrev pub IsPossibleIn : Plan → WorldState → WorldEvent → Type 0
IsPossibleIn P w (Run t) = MayClaim P w.machine t
IsPossibleIn P w (Deliver n) = n < length w.messages

-- after a task has run: if its body has outputs on the tiles that were delivered to it, its items within its rank were
-- sent and its edges to other ranks are messages
abbrev pub after_run : Plan → Data → ℕ → WorldState → Task → WorldState
after_run P G r w t = record {
  machine = record {
    claims = w.machine.claims ++ t ∷ [];
    sends = w.machine.sends ++ items_by P r t (end_in P G w.machine t);
  };
  messages = w.messages ++ messages_by P r t (end_in P G w.machine t);
}

-- whether a message was delivered: its edge is among the items that were sent
abbrev pub is_delivered : MachineState → Message → Bool
is_delivered S m = is_sent S (item.Edge m.edge)

-- a state after a message is delivered: its edge was sent with its tile; if it was sent before, nothing changes
abbrev pub with_message : MachineState → Message → MachineState
with_message S m =
    if is_delivered S m
    then S
    else record { claims = S.claims; sends = S.sends ++ record { item = item.Edge m.edge; tile = m.tile } ∷ [] }

-- a world after the message of this number is delivered, if there is one
abbrev pub after_delivery : WorldState → ℕ → WorldState
after_delivery w n =
    record {
      machine = option_map_or (with_message w.machine) (slice_get w.messages n) w.machine;
      messages = w.messages;
    }

-- a world after an event
abbrev pub world_after : Plan → Data → ℕ → WorldState → WorldEvent → WorldState
world_after P G r w (Run t) = after_run P G r w t
world_after P G r w (Deliver n) = after_delivery w n

-- these events happen in a world of r ranks one after another, each when it is possible, and lead from one state to
-- another
abbrev pub HappenIn : Plan → Data → ℕ → List WorldEvent → WorldState → WorldState → Type 0
HappenIn P G r [] w v = w ≡ v
HappenIn P G r (e ∷ es) w v = IsPossibleIn P w e × HappenIn P G r es (world_after P G r w e) v

-- a quiescent world: no task may run, and each message was delivered
pub record IsQuiet (P : Plan) (w : WorldState) : Type 0 where
  pub none_may_run : (t : Task) → MayClaim P w.machine t → ⊥
  pub all_delivered : (m : Message) → IsIn m w.messages → IsTrue (is_delivered w.machine m)
