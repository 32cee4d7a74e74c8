-- Parts of the pass at one flow.
-- Carried by: inside `match_edges`.
use Rattle.std.specs.Prelude.{ℕ, ℤ, List, Result, drop}
use Rattle.ptg_base.specs.Task.{Task}
use Rattle.ptg_base.specs.declared.edge.Edge.{Edge}
use Rattle.term_core.specs.declared.direction.Direction.{Direction}
use Rattle.plan_core.specs.declared.plan.Plan.{Plan}
use Rattle.plan_core.specs.Flows.{dependences}
use Rattle.dep_iter.specs.declared.source.Source.{Source}
use Rattle.dep_iter.specs.Directions.{edges_before}
use Rattle.dep_iter.specs.Edges.{data_source}
use Rattle.edge_match.specs.declared.counted.Counted.{Counted}
use Rattle.edge_match.specs.declared.fault.MatchFault.{MatchFault}
use Rattle.edge_match.specs.declared.phase.Phase.{Phase}
use Rattle.edge_match.specs.declared.flow_at.FlowAt.{FlowAt}
use Rattle.edge_match.specs.Counted.{Checked}
use Rattle.edge_match.specs.Marks.{Mark, held_items, item_marks}

-- marks, given the phase, and the source, the task and the number of a flow
abbrev pub FlowMarks : Type 0
FlowMarks = Phase → Source → Task → ℕ → List Mark

-- the plan of the task of a flow
abbrev pub plan_of : FlowAt → Plan
plan_of at = at.task.now.plan.now

-- the task of a flow
abbrev pub task_of : FlowAt → Task
task_of at = at.task.now.task.now

-- the locals of the task of a flow
abbrev pub env_of : FlowAt → List ℤ
env_of at = at.task.now.locals.now

-- A part of the pass at this flow that takes the old counts to the new ones. Either all of these marks pass and are
-- counted, or the result is the fault of the first that does not pass.
abbrev pub CheckedAt : Phase → FlowAt → Counted → Counted → Result (Unit {0}) MatchFault → FlowMarks → Type 0
CheckedAt phase at old new r ms =
    Checked (plan_of at) old new r (ms phase (data_source (plan_of at) (task_of at) at.number) (task_of at) at.number)

-- the edges that the first k dependences of the flow stand for
abbrev pub before_at : Direction → FlowAt → ℕ → List Edge
before_at direction at k = edges_before direction (plan_of at) (task_of at) at.number k

-- the marks of the items that the dependences from number k on stand for
abbrev pub marks_from : Direction → FlowAt → ℕ → FlowMarks
marks_from direction at k =
    item_marks direction (before_at direction at k)
    (held_items direction (task_of at) (env_of at) at.number at.flow.now.kind
    (drop k (dependences direction at.flow.now)))
