-- Lists that are joined from parts, and the edges of a task as its links.
use Rattle.std.proofs.Common.{◌≡◌, ℕ, ℤ, List, [], ◌∷◌, map, refl, ap, sym, ◌∙◌}
use Rattle.std.specs.List.{filter_map, flat_map}
use Rattle.ptg_base.specs.Task.{Task}
use Rattle.ptg_base.specs.declared.edge.Item.TheVariants as item
use Rattle.term_core.specs.declared.direction.Direction.{Direction}
use Rattle.term_core.specs.declared.direction.Direction.TheVariants.{In, Out}
use Rattle.plan_core.specs.declared.plan.Plan.{Plan}
use Rattle.plan_core.specs.declared.target.Target.{Target}
use Rattle.plan_core.specs.declared.target.Target.TheVariants as target
use Rattle.dep_iter.specs.Tasks.{locals_of, task}
use Rattle.dep_iter.specs.Active.{active_ins, active_outs}
use Rattle.dep_iter.specs.Arguments.{combinations}
use Rattle.dep_iter.specs.Directions.{edges_of}
use Rattle.dep_iter.specs.Edges.{edge, edges_into, in_edges}
use Rattle.dep_iter.specs.Items.{edge_of, items, items_to, out_edges, write_backs, write_of}
use Rattle.dep_iter.specs.Links.{edge_of_link, link, links_to, task_links}
use Rattle.dep_iter.specs.Walking.{all_writes_to, writes_to}
use Rattle.list_lemmas.proofs.Joins.{map-map, map-flat_map, flat_map-same, filter_map-flat_map}

pub edges_into-links : (t : Task) (env : List ℤ) (n : ℕ) (x : Target) → edges_into t env n x ≡ map (edge_of_link In t) (links_to env n x)
edges_into-links t env n (target.Task class flow args) = sym (map-map (edge_of_link In t) (link n class flow) (combinations args env))
edges_into-links t env n (target.Element coll indices) = refl
edges_into-links t env n target.New = refl
edges_into-links t env n target.Null = refl

edges_among : (t : Task) (n class flow : ℕ) (cs : List (List ℤ))
    → filter_map edge_of (map (λ params. item.Edge (edge t n (task class params) flow)) cs)
    ≡ map (edge_of_link Out t) (map (link n class flow) cs)
edges_among t n class flow [] = refl
edges_among t n class flow (c ∷ cs) = ap (λ l. edge t n (task class c) flow ∷ l) (edges_among t n class flow cs)

no_writes_among : (t : Task) (n class flow : ℕ) (cs : List (List ℤ))
    → filter_map write_of (map (λ params. item.Edge (edge t n (task class params) flow)) cs) ≡ []
no_writes_among t n class flow [] = refl
no_writes_among t n class flow (c ∷ cs) = no_writes_among t n class flow cs

pub items_to-links : (t : Task) (env : List ℤ) (n : ℕ) (x : Target) → filter_map edge_of (items_to t env n x) ≡ map (edge_of_link Out t) (links_to env n x)
items_to-links t env n (target.Task class flow args) = edges_among t n class flow (combinations args env)
items_to-links t env n (target.Element coll indices) = refl
items_to-links t env n target.New = refl
items_to-links t env n target.Null = refl

pub items_to-writes : (t : Task) (env : List ℤ) (n : ℕ) (x : Target) → filter_map write_of (items_to t env n x) ≡ writes_to t env n x
items_to-writes t env n (target.Task class flow args) = no_writes_among t n class flow (combinations args env)
items_to-writes t env n (target.Element coll indices) = refl
items_to-writes t env n target.New = refl
items_to-writes t env n target.Null = refl

pub in_edges-links : (P : Plan) (t : Task) → map (edge_of_link In t) (task_links P t In) ≡ in_edges P t
unfolding in_edges
in_edges-links P t =
    let env = locals_of P t in
    map-flat_map (edge_of_link In t) (λ (a : ℕ × Target). links_to env a.0 a.1) (active_ins P t)
    ∙ flat_map-same (λ (a : ℕ × Target). map (edge_of_link In t) (links_to env a.0 a.1)) (λ a. edges_into t env a.0 a.1)
    (λ a. sym (edges_into-links t env a.0 a.1)) (active_ins P t)

pub out_edges-links : (P : Plan) (t : Task) → map (edge_of_link Out t) (task_links P t Out) ≡ out_edges P t
unfolding items
out_edges-links P t =
    let env = locals_of P t in
    map-flat_map (edge_of_link Out t) (λ (a : ℕ × Target). links_to env a.0 a.1) (active_outs P t)
    ∙ flat_map-same (λ (a : ℕ × Target). map (edge_of_link Out t) (links_to env a.0 a.1))
    (λ a. filter_map edge_of (items_to t env a.0 a.1)) (λ a. sym (items_to-links t env a.0 a.1)) (active_outs P t)
    ∙ sym (filter_map-flat_map edge_of (λ (a : ℕ × Target). items_to t env a.0 a.1) (active_outs P t))

pub edges_of-links : (d : Direction) (P : Plan) (t : Task)
    → map (edge_of_link d t) (task_links P t d) ≡ edges_of d P t
edges_of-links In P t = in_edges-links P t
edges_of-links Out P t = out_edges-links P t

pub write_backs-targets : (P : Plan) (t : Task) → all_writes_to t (locals_of P t) (active_outs P t) ≡ write_backs P t
unfolding items
write_backs-targets P t =
    let env = locals_of P t in
    flat_map-same (λ (a : ℕ × Target). writes_to t env a.0 a.1) (λ a. filter_map write_of (items_to t env a.0 a.1))
    (λ a. sym (items_to-writes t env a.0 a.1)) (active_outs P t)
    ∙ sym (filter_map-flat_map write_of (λ (a : ℕ × Target). items_to t env a.0 a.1) (active_outs P t))

-- the edges that the targets of one flow stand for, in either direction, are their links as edges
pub edges_into-among : (t : Task) (env : List ℤ) (n : ℕ) (xs : List Target)
    → flat_map (edges_into t env n) xs ≡ map (edge_of_link In t) (flat_map (links_to env n) xs)
edges_into-among t env n xs =
    flat_map-same (edges_into t env n) (λ x. map (edge_of_link In t) (links_to env n x)) (edges_into-links t env n) xs
    ∙ sym (map-flat_map (edge_of_link In t) (links_to env n) xs)

pub items_to-among : (t : Task) (env : List ℤ) (n : ℕ) (xs : List Target)
    → filter_map edge_of (flat_map (items_to t env n) xs) ≡ map (edge_of_link Out t) (flat_map (links_to env n) xs)
items_to-among t env n xs =
    filter_map-flat_map edge_of (items_to t env n) xs
    ∙ flat_map-same (λ x. filter_map edge_of (items_to t env n x)) (λ x. map (edge_of_link Out t) (links_to env n x)) (items_to-links t env n) xs
    ∙ sym (map-flat_map (edge_of_link Out t) (links_to env n) xs)
