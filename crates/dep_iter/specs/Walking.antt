-- A walk over the active targets of a task in one direction: what it has left at a position.
use Rattle.std.specs.Prelude.{ℕ, ℤ, List, [], ◌∷◌, ◌++◌, flat_map, map, Bool, ◌&&◌}
use Rattle.term_core.specs.declared.direction.Direction.{Direction}
use Rattle.term_core.specs.declared.direction.Direction.TheVariants.{Out}
use Rattle.plan_core.specs.declared.plan.Plan.{Plan}
use Rattle.plan_core.specs.declared.target.Target.{Target}
use Rattle.dep_iter.specs.declared.position.Position.{Position}
use Rattle.plan_core.specs.declared.target.Target.TheVariants as target
use Rattle.ptg_base.specs.Task.{Task}
use Rattle.ptg_base.specs.declared.edge.Edge.{Edge}
use Rattle.ptg_base.specs.declared.edge.Item.{Item}
use Rattle.ptg_base.specs.declared.edge.Item.TheVariants as item
use Rattle.ptg_base.specs.declared.edge.WriteBack.{WriteBack}
use Rattle.dep_iter.specs.Arguments.{place_of}
use Rattle.dep_iter.specs.Active.{by_flow, flow_targets, held_targets}
use Rattle.dep_iter.specs.Items.{items_to, write_back}
use Rattle.dep_iter.specs.declared.link.Link.{Link}
use Rattle.dep_iter.specs.Links.{all_links, dependences_fit, edge_of_link, flows_fit}

-- the targets left: those of the dependences left in the flow at hand, then those of the flows after it
abbrev pub targets_left : Direction → List ℤ → Position → List (ℕ × Target)
targets_left direction env p =
    map (λ x. (p.flow, x)) (held_targets p.first_only p.deps.now env)
    ++ by_flow (flow_targets direction env) p.next_flow p.flows.now

-- the edges left of a walk over a task's edges in one direction: those of these links, then those of the targets left
abbrev pub edges_left : Direction → Task → List ℤ → List Link → Position → List Edge
edges_left direction t env links p =
    map (edge_of_link direction t) links
    ++ map (edge_of_link direction t) (all_links env (targets_left direction env p))

-- a link out of a task, as the item that the task sends
abbrev pub link_item : Task → Link → Item
link_item t l = item.Edge (edge_of_link Out t l)

-- the items that these targets of flows stand for
abbrev pub all_items_to : Task → List ℤ → List (ℕ × Target) → List Item
all_items_to t env targets = flat_map (λ (flow, target). items_to t env flow target) targets

-- the items left of a walk over what a task sends: the edges of these links, then what the targets left stand for
abbrev pub items_left : Task → List ℤ → List Link → Position → List Item
items_left t env links p = map (link_item t) links ++ all_items_to t env (targets_left Out env p)

-- whether the targets of all dependences left fit the plan
abbrev pub position_fits : Plan → Position → Bool
position_fits P p = dependences_fit P p.deps.now && flows_fit P p.flows.now

-- the write-backs of flow n of a task that a target stands for
abbrev pub writes_to : Task → List ℤ → ℕ → Target → List WriteBack
writes_to t env n (target.Task class flow args) = []
writes_to t env n (target.Element coll indices) = write_back t n (place_of coll indices env) ∷ []
writes_to t env n target.New = []
writes_to t env n target.Null = []

-- the write-backs that these targets of flows stand for
abbrev pub all_writes_to : Task → List ℤ → List (ℕ × Target) → List WriteBack
all_writes_to t env targets = flat_map (λ (flow, target). writes_to t env flow target) targets
