-- What a table of dependences holds in a state of the event machine: the tasks that are ready, those that wait, and
-- what was written back. Source: DAGuE (Parallel Computing, 2012), where an entry counts the dependences that have
-- come.
-- Carried by: laws of `flow_meaning`.
use Rattle.std.specs.Prelude.{ℤ, nat_lt, ◌==◌, List, map, filter, filter_map, Bool, ◌&&◌, ◌||◌, Option, Some, None, if◌then◌else◌}
use Rattle.ptg_base.specs.Entry.{Entry}
use Rattle.ptg_base.specs.Task.{Task}
use Rattle.ptg_base.specs.TaskOrder.{in_task_order}
use Rattle.ptg_base.specs.declared.edge.WriteBack.{WriteBack}
use Rattle.ptg_base.specs.declared.edge.Item.{Item}
use Rattle.ptg_base.specs.declared.edge.Item.TheVariants as item
use Rattle.plan_core.specs.declared.plan.Plan.{Plan}
use Rattle.dep_iter.specs.Tasks.{all_tasks}
use Rattle.dep_iter.specs.Edges.{goal}
use Rattle.dep_iter.specs.Hints.{priority}
use Rattle.flow_meaning.specs.declared.outcome.WaitRow.{WaitRow}
use Rattle.flow_meaning.specs.Starting.{delivered_tiles}
use Rattle.flow_meaning.specs.Machine.{SentItem, MachineState, claim_count, arrived, sent_tile}

-- what a table holds of an unclaimed task: the number of edges into it, how many of them were sent, its priority, and
-- the tiles that were sent to it
abbrev pub entry_of : Plan → MachineState → Task → Entry
entry_of P S t =
    record {
      goal = goal P t;
      arrived = arrived P S t;
      priority = priority P t;
      tiles = delivered_tiles P (sent_tile S.sends) t;
    }

-- whether a task is not claimed
abbrev pub is_unclaimed : MachineState → Task → Bool
is_unclaimed S t = claim_count S t == 0

-- whether a task is ready: all edges into it were sent, if there are any, and it is not claimed
abbrev pub is_ready : Plan → MachineState → Task → Bool
is_ready P S t = is_unclaimed S t && (arrived P S t == goal P t)

-- whether a task waits: some but not all edges into it were sent, and it is not claimed
abbrev pub is_waiting : Plan → MachineState → Task → Bool
is_waiting P S t = is_unclaimed S t && (nat_lt 0 (arrived P S t) && nat_lt (arrived P S t) (goal P t))

-- the entry of a task, if it is ready or waits. It is used for tasks of the job alone
abbrev pub table_entry : Plan → MachineState → Task → Option Entry
table_entry P S t = if is_ready P S t || is_waiting P S t then Some (entry_of P S t) else None

-- the tasks that are ready, in walk order
unfoldable pub ready_tasks : Plan → MachineState → List Task
ready_tasks P S = filter (is_ready P S) (all_tasks P)

-- the tasks that wait, in walk order
unfoldable pub waiting_tasks : Plan → MachineState → List Task
waiting_tasks P S = filter (is_waiting P S) (all_tasks P)

-- the row of a task, if it waits
abbrev pub wait_row : Plan → MachineState → Task → WaitRow
wait_row P S t = record { task = t; arrived = arrived P S t; goal = goal P t }

-- the rows of the tasks that wait, in task order
unfoldable pub waiting_rows : Plan → MachineState → List WaitRow
waiting_rows P S = in_task_order (λ (r : WaitRow). r.task) (map (wait_row P S) (waiting_tasks P S))

-- the write-back with its tile, if the item is one
abbrev pub written_by : Item → Option (List ℤ) → Option (WriteBack × Option (List ℤ))
written_by (item.Edge e) tile = None
written_by (item.Write w) tile = Some (w, tile)

-- the write-backs that were sent, each with its tile, in the order of the list
abbrev pub written : MachineState → List (WriteBack × Option (List ℤ))
written S = filter_map (λ (x : SentItem). written_by x.item x.tile) S.sends
