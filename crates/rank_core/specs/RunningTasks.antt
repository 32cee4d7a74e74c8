-- A task that runs in a world, part by part: it is claimed, its items within its rank are sent one after another, and
-- it ends. Source: DAGuE (Parallel Computing, 2012), where a task that ends satisfies the dependences of its
-- successors.
use Rattle.std.specs.Prelude.{◌≡◌, ◌<◌, ◌≤◌, ◌++◌, ℤ, List, [], ◌∷◌, map, length, option_map, slice_index, Option, Some}
use Rattle.std.specs.Prelude.{None, if◌then◌else◌}
use Rattle.ptg_base.specs.Limits.{most_ranks}
use Rattle.ptg_base.specs.Task.{Task}
use Rattle.ptg_base.specs.declared.edge.Edge.{Edge}
use Rattle.ptg_base.specs.declared.edge.Item.{Item}
use Rattle.ptg_base.specs.declared.edge.Item.TheVariants as item
use Rattle.plan_core.specs.declared.flow.FlowPlan.{FlowPlan}
use Rattle.plan_core.specs.declared.plan.Plan.{Plan}
use Rattle.plan_core.specs.Kinds.{flow_of, is_data}
use Rattle.coll_data.specs.Data.{Data}
use Rattle.coll_data.specs.WellMade.{IsWellMade}
use Rattle.plan_data.specs.Fit.{DataFit}
use Rattle.dep_iter.specs.Consistent.{IsConsistent}
use Rattle.dep_iter.specs.Items.{write_backs}
use Rattle.dep_shard.specs.Content.{Content}
use Rattle.flow_meaning.specs.Backward.{ended}
use Rattle.flow_meaning.specs.Machine.{MayClaim, item_from}
use Rattle.shard_meaning.specs.Moment.{Moment}
use Rattle.shard_meaning.specs.Share.{IsShardOf}
use Rattle.rank_core.specs.declared.message.Message.{Message}
use Rattle.rank_core.specs.Sound.{IsSoundWorld}
use Rattle.rank_core.specs.World.{WorldState, after_run, edges_between, edges_within, items_within, rank_of}
use Rattle.rank_core.specs.declared.running_task.RunningTask.{RunningTask}

-- the plan of a running task
abbrev pub plan_of : RunningTask → Plan
plan_of v = v.matched.now

-- the task itself
abbrev pub task_of : RunningTask → Task
task_of v = v.task.now.task.now

-- the data of a running task
abbrev pub data_of : RunningTask → Data
data_of v = v.given.now

-- the world before a running task
abbrev pub before : RunningTask → WorldState
before v = v.history.now.state

-- the world after a running task
abbrev pub after : RunningTask → WorldState
after v = after_run (plan_of v) (data_of v) v.ranks (before v) (task_of v)

-- a task of the job that may run, with its rank, in a sound world of a consistent job and its data
pub record IsRunningTask (v : RunningTask) : Type 0 where
  pub consistent : IsConsistent (plan_of v)
  pub fit : DataFit (plan_of v) (data_of v)
  pub well : IsWellMade (data_of v)
  pub some_ranks : 0 < v.ranks
  pub ranks_at_most : v.ranks ≤ most_ranks
  pub sound : IsSoundWorld (plan_of v) (data_of v) v.ranks (before v)
  pub may : MayClaim (plan_of v) (before v).machine (task_of v)
  pub plan_is : v.task.now.plan.now ≡ plan_of v
  pub rank_is : v.rank ≡ rank_of (plan_of v) v.ranks (task_of v)

-- the moment at which the task runs and these of its items were sent
abbrev pub part_way : RunningTask → List Item → Moment
part_way v is = record {
  state = record {
    claims = (before v).machine.claims ++ (task_of v) ∷ [];
    sends = (before v).machine.sends ++ map (item_from (ended (plan_of v) (data_of v) (task_of v))) is;
  };
  running = (task_of v) ∷ [];
}

-- the rank of the task holds its share of a moment
abbrev pub HoldsAt : RunningTask → Moment → Content → Type 0
HoldsAt v R y = IsShardOf (plan_of v) (data_of v) (rank_of (plan_of v) v.ranks) v.rank R y

-- the write-backs of the task as items
abbrev pub its_writes : RunningTask → List Item
its_writes v = map item.Write (write_backs (plan_of v) (task_of v))

-- the edges of the task to its own rank
abbrev pub its_edges_within : RunningTask → List Edge
its_edges_within v = edges_within (plan_of v) v.ranks (task_of v)

-- the edges of the task to other ranks
abbrev pub its_edges_between : RunningTask → List Edge
its_edges_between v = edges_between (plan_of v) v.ranks (task_of v)

-- the items of the task that need no message
abbrev pub its_items_within : RunningTask → List Item
its_items_within v = items_within (plan_of v) v.ranks (task_of v)

-- the flow that the edge goes to says whether there is a tile, and how many numbers it has
abbrev pub IsShapeOf : Plan → Edge → Option (List ℤ) → Type 0
IsShapeOf P e tile =
    (f : FlowPlan) → flow_of P.classes e.to.class e.in_flow ≡ Some f
    → option_map length tile ≡ (if is_data (Some f.kind) then Some (slice_index P.elems f.datatype) else None)

-- the tile of a message is as the flow that it comes to says
abbrev pub HasShape : Plan → Message → Type 0
HasShape P m = IsShapeOf P m.edge m.tile

-- messages of these edges, in their order, with tiles of the right size whose numbers are any
abbrev pub AreBlank : Plan → List Edge → List Message → Type 0
AreBlank P [] [] = Unit {0}
AreBlank P [] (m ∷ ms) = ⊥
AreBlank P (e ∷ es) [] = ⊥
AreBlank P (e ∷ es) (m ∷ ms) = (m.edge ≡ e) × HasShape P m × AreBlank P es ms
