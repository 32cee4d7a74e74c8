-- Which tasks are at the other ends of links.
use Rattle.std.proofs.Common.{◌≡◌, ◌↔◌, ℕ, suc, ℤ, Bool, true, false, List, [], ◌∷◌, ◌++◌, map, ap, sym, ◌∙◌, subst, Some, None, IsTrue, ◌⊎◌, inl, inr}
use Rattle.std.proofs.lemmas.Bool.{false≢true}
use Rattle.std.specs.List.{flat_map}
use Rattle.ptg_base.specs.Lists.{IsIn}
use Rattle.ptg_base.specs.Task.{Task}
use Rattle.ptg_base.specs.declared.edge.Edge.{Edge}
use Rattle.term_core.specs.declared.direction.Direction.TheVariants.{In}
use Rattle.plan_core.specs.declared.flow.DepPlan.{DepPlan}
use Rattle.plan_core.specs.declared.flow.FlowPlan.{FlowPlan}
use Rattle.plan_core.specs.declared.plan.Plan.{Plan}
use Rattle.plan_core.specs.declared.target.Target.{Target}
use Rattle.list_lemmas.proofs.Members.{IsIn-append_left, IsIn-append_right, IsIn-map, from_append, from_map}
use Rattle.std.proofs.lemmas.List.{map-append}
use Rattle.list_lemmas.proofs.Joins.{map-map}
use Rattle.dep_iter.specs.declared.link.Link.{Link}
use Rattle.dep_iter.specs.Active.{by_flow, flow_ins, flow_targets, held_target, held_targets}
use Rattle.dep_iter.specs.Edges.{sources}
use Rattle.dep_iter.specs.Links.{all_links, edge_of_link, link, links_to, task_links}
use Rattle.dep_iter.proofs.CallerLemmas.{by_flow-links, from_links, held-first, held-more, held-none, in_edges-links, to_links}

-- the task at the other end of a link
abbrev pub far_of : Link → Task
far_of l = l.far

pub to_named : (n class flow : ℕ) (cs : List (List ℤ)) (u : Task) → class ≡ u.class → IsIn u.params cs → IsIn u (map far_of (map (link n class flow) cs))
to_named n class flow cs u e h = rw e (IsIn-map far_of (map (link n u.class flow) cs) (link n u.class flow u.params) (to_links n u.class flow u.params cs h))

pub from_named : (n class flow : ℕ) (cs : List (List ℤ)) (u : Task) → IsIn u (map far_of (map (link n class flow) cs)) → (class ≡ u.class) × IsIn u.params cs
from_named n class flow cs u h =
    let p = from_map far_of (map (link n class flow) cs) u h in
    let q = from_links n class flow cs p.0 p.1 in
    (sym q.0 ∙ sym (ap (λ (t : Task). t.class) p.2), subst (λ l. IsIn l cs) (sym (ap (λ (t : Task). t.params) p.2)) q.2)

-- a task at the other end of a link of two lists is at one of the first or of the second
parts : (xs ys : List Link) (u : Task) → IsIn u (map far_of (xs ++ ys)) → IsIn u (map far_of xs) ⊎ IsIn u (map far_of ys)
parts xs ys u h = from_append u (map far_of xs) (map far_of ys) (rw (map-append far_of xs ys) at h)

pub in_first : (xs ys : List Link) (u : Task) → IsIn u (map far_of xs) → IsIn u (map far_of (xs ++ ys))
in_first xs ys u h = rw (map-append far_of xs ys) (IsIn-append_left u (map far_of xs) (map far_of ys) h)

in_second : (xs ys : List Link) (u : Task) → IsIn u (map far_of ys) → IsIn u (map far_of (xs ++ ys))
in_second xs ys u h = rw (map-append far_of xs ys) (IsIn-append_right u (map far_of xs) (map far_of ys) h)

-- a task in no link of the first list is in one of both lists if and only if it is in one of the second
pub in_rest : (xs ys : List Link) (u : Task) (b : Bool) → (IsIn u (map far_of xs) → ⊥)
    → IsTrue b ↔ IsIn u (map far_of ys) → IsTrue b ↔ IsIn u (map far_of (xs ++ ys))
in_rest xs ys u b none w = (
  λ q. in_second xs ys u (w.0 q),
  λ h. elim (parts xs ys u h) [ inl a ↦ absurd (none a) | inr k ↦ w.1 k ],
)

module _ (env : List ℤ) (n : ℕ) (u : Task) (d : DepPlan) (ds : List DepPlan) where
  pub names-none : (first_only : Bool) (b : Bool) → held_target d env ≡ None
      → IsTrue b ↔ IsIn u (map far_of (flat_map (links_to env n) (held_targets first_only ds env)))
      → IsTrue b ↔ IsIn u (map far_of (flat_map (links_to env n) (held_targets first_only (d ∷ ds) env)))
  names-none first_only b e w = rw (held-none first_only d ds env e) w

  pub names-here : (first_only : Bool) (x : Target) → held_target d env ≡ Some x
      → IsIn u (map far_of (links_to env n x)) → IsIn u (map far_of
      (flat_map (links_to env n) (held_targets first_only (d ∷ ds) env)))
  names-here true x e h = rw (held-first d ds env x e) (in_first (links_to env n x) [] u h)
  names-here false x e h = rw (held-more d ds env x e) (in_first (links_to env n x) (flat_map (links_to env n) (held_targets false ds env)) u h)

  pub names-later : (first_only b : Bool) (x : Target) → first_only ≡ false → held_target d env ≡ Some x → (IsIn u (map far_of (links_to env n x)) → ⊥)
      → IsTrue b ↔ IsIn u (map far_of (flat_map (links_to env n) (held_targets first_only ds env)))
      → IsTrue b ↔ IsIn u (map far_of (flat_map (links_to env n) (held_targets first_only (d ∷ ds) env)))
  names-later true b x k e none w = absurd (false≢true (sym k))
  names-later false b x k e none w = rw (held-more d ds env x e) (in_rest (links_to env n x) (flat_map (links_to env n) (held_targets false ds env)) u b none w)

-- the links of a flow, and of those after it
pub flow_first : (env : List ℤ) (n : ℕ) (f : FlowPlan) (fs : List FlowPlan) (u : Task) → IsIn u (map far_of (flat_map (links_to env n) (flow_ins env f)))
    → IsIn u (map far_of (all_links env (by_flow (flow_targets In env) n (f ∷ fs))))
flow_first env n f fs u h =
    rw (by_flow-links env (flow_targets In env) n f fs) (in_first (flat_map (links_to env n) (flow_ins env f))
    (all_links env (by_flow (flow_targets In env) (suc n) fs)) u h)

pub flow_rest : (env : List ℤ) (n : ℕ) (f : FlowPlan) (fs : List FlowPlan) (u : Task) (b : Bool)
    → (IsIn u (map far_of (flat_map (links_to env n) (flow_ins env f))) → ⊥)
    → IsTrue b ↔ IsIn u (map far_of (all_links env (by_flow (flow_targets In env) (suc n) fs)))
    → IsTrue b ↔ IsIn u (map far_of (all_links env (by_flow (flow_targets In env) n (f ∷ fs))))
flow_rest env n f fs u b none w =
    rw (by_flow-links env (flow_targets In env) n f fs) (in_rest (flat_map (links_to env n) (flow_ins env f))
    (all_links env (by_flow (flow_targets In env) (suc n) fs)) u b none w)

-- the sources of the edges into a task are the tasks at the other ends of its links
pub sources-links : (P : Plan) (t : Task) → map far_of (task_links P t In) ≡ sources P t
sources-links P t = sym (map-map (λ (e : Edge). e.from) (edge_of_link In t) (task_links P t In)) ∙ ap (map (λ (e : Edge). e.from)) (in_edges-links P t)
