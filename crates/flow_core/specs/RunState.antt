-- A run on one thread as contracts see it. It has the claimed tasks, each with how it ended once it has, and the items
-- that were sent, each with its tile. It also has the tiles of ended tasks that are kept for sends. Source: DAGuE
-- (Parallel Computing, 2012): a task runs once all its dependences have come, and then satisfies those of its
-- successors.
-- Carried by: `State::claim`, `State::finish`, `State::send`, `State::quiescent`, `State::answer`; laws
-- `calls_are_events`, `items_of_ctl_flows_carry_no_tile`.
-- Tested by: `jobs.txt`, `answers.txt`, `run_orders`.
use Rattle.std.specs.Prelude.{◌≡◌, ℤ, false, List, [], ◌∷◌, ◌++◌, Option, Some, None, Ok, Err, unwrap_or}
use Rattle.std.specs.Map.{keys_of, lookup, set_value}
use Rattle.indexmap.specs.IndexMap.{insert_entry}
use Rattle.ptg_base.specs.Task.{Task}
use Rattle.ptg_base.specs.TaskComparing.{same_task}
use Rattle.ptg_base.specs.declared.edge.Item.{Item}
use Rattle.flow_meaning.specs.Ending.{Ended}
use Rattle.flow_meaning.specs.Machine.{MachineState, SentItem, sender, item_from}

-- the tiles that a task left, an entry for each of its flows
abbrev pub Tiles : Type 0
Tiles = List (Option (List ℤ))

-- what a run on one thread has done
pub record RunState : Type 0 where
  -- the claimed tasks in the order of the claims, each with how it ended; one without an end is running
  pub claims : List (Task × Option Ended)
  -- the items that were sent, in the order of the sends
  pub sends : List SentItem
  -- the tasks that have ended without a trap and whose tiles were not dropped, each with its tiles
  pub outputs : List (Task × Tiles)

-- Nothing is claimed, and nothing is sent.
abbrev pub opening_run : RunState
opening_run = record { claims = []; sends = []; outputs = [] }

-- the state of the event machine that a run is in
abbrev pub machine : RunState → MachineState
machine r = record { claims = keys_of r.claims; sends = r.sends }

-- what is known of a task: nothing if it is not claimed, else how it ended, if it has
abbrev pub mark_of : RunState → Task → Option (Option Ended)
mark_of r t = lookup (same_task t) r.claims

-- The task was claimed, and has not ended.
abbrev pub IsRunning : RunState → Task → Type 0
IsRunning r t = mark_of r t ≡ Some None

-- how a task ended, if it has
abbrev pub end_of : RunState → Task → Option Ended
end_of r t = unwrap_or (mark_of r t) None

-- the run after a task is claimed; the task is running then
abbrev pub with_claim : Task → RunState → RunState
with_claim t r = record { claims = r.claims ++ (t, None) ∷ []; sends = r.sends; outputs = r.outputs }

-- the tiles that are kept after a task has ended in this way
abbrev pub with_tiles : Task → Ended → List (Task × Tiles) → List (Task × Tiles)
with_tiles t (Ok tiles) outputs = insert_entry same_task outputs t tiles
with_tiles t (Err cause) outputs = outputs

-- the run after a task has ended in this way
abbrev pub with_end : Task → Ended → RunState → RunState
with_end t end r =
    record {
      claims = set_value (same_task t) r.claims (Some end);
      sends = r.sends;
      outputs = with_tiles t end r.outputs;
    }

-- what is sent with an item: the tile that its task left in the flow of the item
abbrev pub send_of : RunState → Item → SentItem
send_of r i = item_from (end_of r (sender i)) i

-- the run after an item is sent
abbrev pub with_send : Item → RunState → RunState
with_send i r = record { claims = r.claims; sends = r.sends ++ send_of r i ∷ []; outputs = r.outputs }

-- The tiles that a task left are kept.
abbrev pub KeepsTiles : RunState → Task → Tiles → Type 0
KeepsTiles r t tiles = lookup (same_task t) r.outputs ≡ Some tiles

-- the run after the tiles that a task left are dropped
pub record HasLetGo (t : Task) (old new : RunState) : Type 0 where
  pub claims : new.claims ≡ old.claims
  pub sends : new.sends ≡ old.sends
  pub others : (u : Task) → same_task u t ≡ false → lookup (same_task u) new.outputs ≡ lookup (same_task u) old.outputs
