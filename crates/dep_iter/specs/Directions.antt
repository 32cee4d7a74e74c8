-- The edges of a task in one direction, and the two ends of an edge. Each definition joins one for each direction.
-- Carried by: `TaskAt::has_edge`, `TaskAt::has_edge_before`, `has_other_end`.
-- Tested by: `edges.txt`.
use Rattle.std.specs.Prelude.{◌≡◌, ℕ, List, Some, slice_get}
use Rattle.ptg_base.specs.Lists.{IsIn}
use Rattle.ptg_base.specs.Task.{Task}
use Rattle.ptg_base.specs.declared.edge.Edge.{Edge}
use Rattle.term_core.specs.declared.direction.Direction.{Direction}
use Rattle.term_core.specs.declared.direction.Direction.TheVariants.{In, Out}
use Rattle.term_core.specs.Directions.{opposite}
use Rattle.plan_core.specs.declared.flow.FlowPlan.{FlowPlan}
use Rattle.plan_core.specs.declared.plan.Plan.{Plan}
use Rattle.dep_iter.specs.Tasks.{flows_of, IsTask}
use Rattle.dep_iter.specs.Edges.{edge, in_edges, in_edges_before}
use Rattle.dep_iter.specs.Items.{out_edges, out_edges_before}

-- the edge between flow n of the task t and flow m of the task u
abbrev pub edge_at : Direction → Task → ℕ → Task → ℕ → Edge
edge_at In t n u m = edge u m t n
edge_at Out t n u m = edge t n u m

-- the task whose edge this is
abbrev pub near_task : Direction → Edge → Task
near_task In e = e.to
near_task Out e = e.from

-- the number of that task's flow
abbrev pub near_flow : Direction → Edge → ℕ
near_flow In e = e.in_flow
near_flow Out e = e.out_flow

-- the task at the other end of the edge
abbrev pub far_task : Direction → Edge → Task
far_task In e = e.from
far_task Out e = e.to

-- the number of that task's flow
abbrev pub far_flow : Direction → Edge → ℕ
far_flow In e = e.out_flow
far_flow Out e = e.in_flow

-- the edges of a task
abbrev pub edges_of : Direction → Plan → Task → List Edge
edges_of In P t = in_edges P t
edges_of Out P t = out_edges P t

-- the edges of flow n of a task that come from the first k dependences of the flow
abbrev pub edges_before : Direction → Plan → Task → ℕ → ℕ → List Edge
edges_before In P t n k = in_edges_before P t n k
edges_before Out P t n k = out_edges_before P t n k

-- The task at the other end of an edge is one of the job, and has the edge in the other direction.
abbrev pub HasOtherEnd : Direction → Plan → Edge → Type 0
HasOtherEnd direction P e =
    IsTask P (far_task direction e) × IsIn e (edges_of (opposite direction) P (far_task direction e))

-- The edge names this task and this flow of it.
abbrev pub IsNearFlow : Direction → Plan → Task → Edge → FlowPlan → Type 0
IsNearFlow direction P t e f =
    (near_task direction e ≡ t) × (slice_get (flows_of P t) (near_flow direction e) ≡ Some f)
