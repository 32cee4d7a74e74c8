-- The edges into a task (its in edges), and the source of each of its tiles. Source: DAGuE (Parallel Computing, 2012)
-- and PaRSEC (2013).
-- Carried by: `in_edges`, `data_source`.
-- Tested by: `edges.txt`, `edges_cholesky.txt`.
use Rattle.std.specs.Prelude.{ℕ, ℤ, List, [], ◌∷◌, map, flat_map, length, take, slice_get}
use Rattle.std.specs.Option.{option_map_or}
use Rattle.ptg_base.specs.Task.{Task}
use Rattle.ptg_base.specs.declared.edge.Edge.{Edge}
use Rattle.plan_core.specs.declared.flow.FlowPlan.{FlowPlan}
use Rattle.plan_core.specs.declared.plan.Plan.{Plan}
use Rattle.plan_core.specs.declared.target.Target.{Target}
use Rattle.plan_core.specs.declared.target.Target.TheVariants as target
use Rattle.dep_iter.specs.declared.source.Source.{Source}
use Rattle.dep_iter.specs.declared.source.Source.TheVariants as source
use Rattle.dep_iter.specs.Tasks.{task, locals_of, flows_of}
use Rattle.term_core.specs.Kinds.{is_data}
use Rattle.dep_iter.specs.Active.{active_ins, flow_ins, held_targets}
use Rattle.dep_iter.specs.Arguments.{combinations, single_value, place_of}

-- the edge from a flow of one task to a flow of another
abbrev pub edge : Task → ℕ → Task → ℕ → Edge
edge s out_flow t in_flow = record { from = s; out_flow = out_flow; to = t; in_flow = in_flow }

-- the edges to flow n of the task t that a target of an in dependence stands for: one for each combination of values of
-- its arguments
abbrev pub edges_into : Task → List ℤ → ℕ → Target → List Edge
edges_into t env n (target.Task class flow args) =
    map (λ params. edge (task class params) flow t n) (combinations args env)
edges_into t env n (target.Element coll indices) = []
edges_into t env n target.New = []
edges_into t env n target.Null = []

-- the edges into a task, by flow
unfoldable pub in_edges : Plan → Task → List Edge
in_edges P t = flat_map (λ (flow, target). edges_into t (locals_of P t) flow target) (active_ins P t)

-- how many edges go into a task
abbrev pub goal : Plan → Task → ℕ
goal P t = length (in_edges P t)

-- the tasks that the edges into a task come from, one for each edge
-- Carried by: `cert_check::check_chain`, `cert_check::check_cycle`.
-- Tested by: `certificate_chains.txt`, `certificate_cycles.txt`.
abbrev pub sources : Plan → Task → List Task
sources P t = map (λ (e : Edge). e.from) (in_edges P t)

-- the source that a target of an in dependence of flow n stands for
abbrev pub source_at : Task → List ℤ → ℕ → Target → Source
source_at t env n (target.Task class flow args) = source.Task (edge (task class (map (single_value env) args)) flow t n)
source_at t env n (target.Element coll indices) = source.Place (place_of coll indices env)
source_at t env n target.New = source.New
source_at t env n target.Null = source.Null

-- the source that the first of these targets stands for; Nothing if there are none
abbrev pub source_among : Task → List ℤ → ℕ → List Target → Source
source_among t env n [] = source.Nothing
source_among t env n (x ∷ xs) = source_at t env n x

-- where the tile of a data flow of a task comes from: the target of the first in dependence that holds
unfoldable pub data_source : Plan → Task → ℕ → Source
data_source P t n =
    option_map_or (λ f. source_among t (locals_of P t) n (flow_ins (locals_of P t) f)) (slice_get (flows_of P t) n)
    source.Nothing

-- the edges into flow n of a task that come from the first k in dependences of the flow
unfoldable pub in_edges_before : Plan → Task → ℕ → ℕ → List Edge
in_edges_before P t n k =
    option_map_or
    (λ (f : FlowPlan). flat_map (edges_into t (locals_of P t) n)
    (held_targets (is_data f.kind) (take k f.ins) (locals_of P t)))
    (slice_get (flows_of P t) n) []
