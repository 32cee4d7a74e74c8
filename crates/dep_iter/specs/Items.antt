-- The items that a task sends: edges out of it (its out edges) and write-backs. Source: DAGuE (Parallel Computing,
-- 2012) and PaRSEC (2013); that `-> NULL` sends nothing is this project's own choice.
-- Carried by: `out_edges`, `write_backs`, `TaskItems`.
-- Tested by: `edges.txt`, `edges_cholesky.txt`.
use Rattle.std.specs.Prelude.{ℕ, ℤ, List, [], ◌∷◌, map, flat_map, filter_map, take, false, Option, Some, None, slice_get}
use Rattle.std.specs.Option.{option_map_or}
use Rattle.ptg_base.specs.Task.{Task}
use Rattle.ptg_base.specs.declared.place.Place.{Place}
use Rattle.ptg_base.specs.declared.edge.Edge.{Edge}
use Rattle.ptg_base.specs.declared.edge.WriteBack.{WriteBack}
use Rattle.ptg_base.specs.declared.edge.Item.{Item}
use Rattle.ptg_base.specs.declared.edge.Item.TheVariants as item
use Rattle.plan_core.specs.declared.flow.FlowPlan.{FlowPlan}
use Rattle.plan_core.specs.declared.plan.Plan.{Plan}
use Rattle.plan_core.specs.declared.target.Target.{Target}
use Rattle.plan_core.specs.declared.target.Target.TheVariants as target
use Rattle.dep_iter.specs.Tasks.{task, locals_of, flows_of}
use Rattle.dep_iter.specs.Active.{active_outs, held_targets}
use Rattle.dep_iter.specs.Arguments.{combinations, place_of}
use Rattle.dep_iter.specs.Edges.{edge}

-- the write-back from a flow of a task to a place
abbrev pub write_back : Task → ℕ → Place → WriteBack
write_back t n p = record { from = t; flow = n; place = p }

-- what flow n of the task t sends to a target: an edge for each combination of values of its arguments, or a write-back
-- to a place
abbrev pub items_to : Task → List ℤ → ℕ → Target → List Item
items_to t env n (target.Task class flow args) =
    map (λ params. item.Edge (edge t n (task class params) flow)) (combinations args env)
items_to t env n (target.Element coll indices) =
    item.Write (write_back t n (place_of coll indices env)) ∷ []
items_to t env n target.New = []
items_to t env n target.Null = []

-- what a task sends, in the text's order
unfoldable pub items : Plan → Task → List Item
items P t = flat_map (λ (flow, target). items_to t (locals_of P t) flow target) (active_outs P t)

-- the edge, if the item is one
abbrev pub edge_of : Item → Option Edge
edge_of (item.Edge e) = Some e
edge_of (item.Write w) = None

-- the write-back, if the item is one
abbrev pub write_of : Item → Option WriteBack
write_of (item.Edge e) = None
write_of (item.Write w) = Some w

-- the edges out of a task
abbrev pub out_edges : Plan → Task → List Edge
out_edges P t = filter_map edge_of (items P t)

-- the write-backs of a task
abbrev pub write_backs : Plan → Task → List WriteBack
write_backs P t = filter_map write_of (items P t)

-- the number of the flow that an item is sent by
abbrev pub item_flow : Item → ℕ
item_flow (item.Edge e) = e.out_flow
item_flow (item.Write w) = w.flow

-- the edges out of flow n of a task that come from the first k out dependences of the flow
unfoldable pub out_edges_before : Plan → Task → ℕ → ℕ → List Edge
out_edges_before P t n k =
    option_map_or
    (λ (f : FlowPlan). filter_map edge_of
    (flat_map (items_to t (locals_of P t) n) (held_targets false (take k f.outs) (locals_of P t))))
    (slice_get (flows_of P t) n) []
