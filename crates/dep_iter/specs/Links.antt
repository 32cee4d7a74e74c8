-- The edges of a task, seen from the task. A link is an edge of a task without the task itself. It has the number of
-- the task's flow, and the task at the other end with the number of its flow.
use Rattle.std.specs.Prelude.{ℕ, ℤ, List, [], map, flat_map, Bool, true, ◌&&◌, is_some, length}
use Rattle.std.specs.List.{list_all}
use Rattle.std.specs.Option.{option_map_or}
use Rattle.ptg_base.specs.Task.{Task}
use Rattle.ptg_base.specs.declared.edge.Edge.{Edge}
use Rattle.term_core.specs.declared.direction.Direction.{Direction}
use Rattle.plan_core.specs.declared.flow.DepPlan.{DepPlan}
use Rattle.plan_core.specs.declared.flow.FlowPlan.{FlowPlan}
use Rattle.plan_core.specs.declared.plan.Plan.{Plan}
use Rattle.plan_core.specs.declared.target.Target.{Target}
use Rattle.plan_core.specs.declared.target.Target.TheVariants as target
use Rattle.plan_core.specs.Kinds.{flow_of}
use Rattle.plan_core.specs.Targets.{has_params}
use Rattle.dep_iter.specs.declared.link.Link.{Link}
use Rattle.dep_iter.specs.Tasks.{flows_of, locals_of, task}
use Rattle.dep_iter.specs.Active.{by_flow, flow_targets}
use Rattle.dep_iter.specs.Arguments.{combinations}
use Rattle.dep_iter.specs.Directions.{edge_at}

-- the link of flow n with a flow of the task of this class with these parameters
abbrev pub link : ℕ → ℕ → ℕ → List ℤ → Link
link n class flow params = record { near = n; far = task class params; far_flow = flow }

-- the links of flow n that a target stands for
abbrev pub links_to : List ℤ → ℕ → Target → List Link
links_to env n (target.Task class flow args) = map (link n class flow) (combinations args env)
links_to env n (target.Element coll indices) = []
links_to env n target.New = []
links_to env n target.Null = []

-- the links that these targets of flows stand for
abbrev pub all_links : List ℤ → List (ℕ × Target) → List Link
all_links env targets = flat_map (λ (flow, target). links_to env flow target) targets

-- the edge of a link of the task t in one direction
abbrev pub edge_of_link : Direction → Task → Link → Edge
edge_of_link direction t l = edge_at direction t l.near l.far l.far_flow

-- whether a target fits: if it names tasks, their class has the flow, and there is an argument for each parameter
abbrev pub fits : Plan → Target → Bool
fits P (target.Task class flow args) = is_some (flow_of P.classes class flow) && has_params P.spaces class (length args)
fits P (target.Element coll indices) = true
fits P target.New = true
fits P target.Null = true

-- whether the targets of a dependence fit
abbrev pub dependence_fits : Plan → DepPlan → Bool
dependence_fits P d = fits P d.yes && option_map_or (fits P) d.no true

-- whether the targets of these dependences fit
abbrev pub dependences_fit : Plan → List DepPlan → Bool
dependences_fit P ds = list_all (dependence_fits P) ds

-- whether the targets of the dependences of these flows fit
abbrev pub flows_fit : Plan → List FlowPlan → Bool
flows_fit P fs = list_all (λ (f : FlowPlan). dependences_fit P f.ins && dependences_fit P f.outs) fs

-- all links of a task in one direction
abbrev pub task_links : Plan → Task → Direction → List Link
task_links P t direction = all_links (locals_of P t) (by_flow (flow_targets direction (locals_of P t)) 0 (flows_of P t))
