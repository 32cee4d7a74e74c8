-- What a task starts on, and the edges that bring it. Source: DAGuE (Parallel Computing, 2012): a task runs on the
-- outputs of its sources.
use Rattle.std.specs.Prelude.{ℕ, suc, List, [], ◌∷◌, Bool, length, option_map, nat_lt, Option, Some, None, if◌then◌else◌}
use Rattle.std.specs.List.{list_all}
use Rattle.ptg_base.specs.Task.{Task}
use Rattle.ptg_base.specs.declared.edge.Edge.{Edge}
use Rattle.ptg_base.specs.declared.edge.Item.{Item}
use Rattle.ptg_base.specs.declared.edge.Item.TheVariants as item
use Rattle.plan_core.specs.declared.flow.FlowPlan.{FlowPlan}
use Rattle.plan_core.specs.declared.plan.Plan.{Plan}
use Rattle.plan_core.specs.Kinds.{is_data}
use Rattle.dep_iter.specs.declared.source.Source.{Source}
use Rattle.dep_iter.specs.declared.source.Source.TheVariants as source
use Rattle.dep_iter.specs.Edges.{data_source}

-- the edge, if a source is one
abbrev pub edge_of_source : Source → Option Edge
edge_of_source (source.Task e) = Some e
edge_of_source (source.Place p) = None
edge_of_source source.New = None
edge_of_source source.Null = None
edge_of_source source.Nothing = None

-- the edge that brings the tile of flow n of a task, if one does
abbrev pub edge_into : Plan → Task → ℕ → FlowPlan → Option Edge
edge_into P t n f = if is_data (Some f.kind) then edge_of_source (data_source P t n) else None

-- the source of flow n of a task; a CTL flow has none
abbrev pub source_of : Plan → Task → ℕ → FlowPlan → Source
source_of P t n f = if is_data (Some f.kind) then data_source P t n else source.Null

-- the edges that bring the tiles of these flows of a task, an entry for each flow; the flows are numbered from n on
abbrev pub edges_from : Plan → Task → ℕ → List FlowPlan → List (Option Item)
edges_from P t n [] = []
edges_from P t n (f ∷ fs) = option_map (λ e. item.Edge e) (edge_into P t n f) ∷ edges_from P t (suc n) fs

-- whether the datatype of a flow is one of the plan's
abbrev pub has_datatype : Plan → FlowPlan → Bool
has_datatype P f = nat_lt f.datatype (length P.elems)

-- whether the datatype of each of these flows is one of the plan's
abbrev pub have_datatypes : Plan → List FlowPlan → Bool
have_datatypes P fs = list_all (has_datatype P) fs
