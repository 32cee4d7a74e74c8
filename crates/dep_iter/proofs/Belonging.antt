-- Which links belong to targets, and to tasks.
use Rattle.std.proofs.Common.{Option, ◌≡◌, ◌↔◌, ℕ, zero, suc, ◌+◌, ℤ, Bool, true, false, List, [], ◌∷◌, ◌++◌, take, map}
use Rattle.std.proofs.Common.{refl, ap, sym, ◌∙◌, subst, add-zero, Some, None, slice_get, IsSomeAnd, IsTrue, inl, inr}
use Rattle.std.proofs.Common.{arith}
use Rattle.std.proofs.lemmas.Bool.{false≢true}
use Rattle.std.specs.List.{flat_map}
use Rattle.std.specs.Option.{option_map_or}
use Rattle.ptg_base.specs.Lists.{IsIn}
use Rattle.ptg_base.specs.Task.{Task}
use Rattle.ptg_base.specs.declared.edge.Edge.{Edge}
use Rattle.term_core.specs.declared.direction.Direction.{Direction}
use Rattle.term_core.specs.declared.direction.Direction.TheVariants.{In, Out}
use Rattle.term_core.specs.Kinds.{first_only, is_data}
use Rattle.plan_core.specs.declared.flow.FlowPlan.{FlowPlan}
use Rattle.plan_core.specs.declared.plan.Plan.{Plan}
use Rattle.plan_core.specs.declared.target.Target.{Target}
use Rattle.plan_core.specs.declared.target.Target.TheVariants as target
use Rattle.list_lemmas.proofs.Members.{IsIn-append_left, IsIn-append_right, IsIn-flat_map, IsIn-map, from_append, from_flat_map, from_map}
use Rattle.std.proofs.lemmas.List.Concat.{flat_map-append}
use Rattle.dep_iter.specs.declared.link.Link.{Link}
use Rattle.dep_iter.specs.Tasks.{flows_of, locals_of}
use Rattle.plan_core.specs.declared.flow.DepPlan.{DepPlan}
use Rattle.plan_core.specs.Flows.{dependences}
use Rattle.dep_iter.specs.Active.{by_flow, flow_targets, held_target, held_targets, held_then}
use Rattle.dep_iter.specs.Arguments.{combinations, product}
use Rattle.dep_iter.specs.Directions.{IsNearFlow, edges_before, edges_of, far_flow, far_task}
use Rattle.dep_iter.specs.Directions.{near_flow, near_task}
use Rattle.dep_iter.specs.Edges.{in_edges, in_edges_before}
use Rattle.dep_iter.specs.Items.{out_edges, out_edges_before}
use Rattle.dep_iter.specs.Links.{all_links, edge_of_link, link, links_to, task_links}
use Rattle.dep_iter.proofs.Joining.{edges_into-among, in_edges-links, items_to-among, out_edges-links}

-- a value of the first list before a combination of the other lists is a combination, and the other way round
pub to_product : (v : ℤ) (vs ws : List ℤ) (wss : List (List ℤ)) → IsIn v ws → IsIn vs (product wss) → IsIn (v ∷ vs) (product (ws ∷ wss))
to_product v vs ws wss h k = IsIn-flat_map (λ u. map (λ l. u ∷ l) (product wss)) ws v (v ∷ vs) h (IsIn-map (λ l. v ∷ l) (product wss) vs k)

pub from_product : (v : ℤ) (vs ws : List ℤ) (wss : List (List ℤ)) → IsIn (v ∷ vs) (product (ws ∷ wss)) → IsIn v ws × IsIn vs (product wss)
from_product v vs ws wss h =
    let p = from_flat_map (λ u. map (λ l. u ∷ l) (product wss)) ws (v ∷ vs) h in
    let q = from_map (λ l. p.0 ∷ l) (product wss) (v ∷ vs) p.2 in
    let e : v ≡ p.0 = let k = q.2 in cc in
    let f : vs ≡ q.0 = let k = q.2 in cc in
    (rw e p.1, rw f q.1)

pub not_product : (ws : List ℤ) (wss : List (List ℤ)) → IsIn [] (product (ws ∷ wss)) → ⊥
not_product ws wss h =
    let p = from_flat_map (λ u. map (λ l. u ∷ l) (product wss)) ws [] h in
    let q = from_map (λ l. p.0 ∷ l) (product wss) [] p.2 in
    let k = q.2 in absurd cc

-- links to a class's flow: one for each list of parameters
pub to_links : (n class flow : ℕ) (ps : List ℤ) (cs : List (List ℤ)) → IsIn ps cs → IsIn (link n class flow ps) (map (link n class flow) cs)
to_links n class flow ps cs h = IsIn-map (link n class flow) cs ps h

pub to_links_of : (n class flow : ℕ) (far : Task) (far_flow : ℕ) (cs : List (List ℤ)) → class ≡ far.class
    → flow ≡ far_flow → IsIn far.params cs → IsIn (record { near = n; far = far; far_flow = far_flow })
    (map (link n class flow) cs)
to_links_of n class flow far far_flow cs e f h = rw (e, f) (to_links n far.class far_flow far.params cs h)

pub from_links : (n class flow : ℕ) (cs : List (List ℤ)) (l : Link) → IsIn l (map (link n class flow) cs)
    → (l.far.class ≡ class) × (l.far_flow ≡ flow) × IsIn l.far.params cs × (l.near ≡ n)
from_links n class flow cs l h =
    let p = from_map (link n class flow) cs l h in
    (ap (λ (l : Link). l.far.class) p.2, ap (λ (l : Link). l.far_flow) p.2, rw (ap (λ (l : Link). l.far.params) p.2) p.1, ap (λ (l : Link). l.near) p.2)

-- the links of a flow's targets have the number of the flow
near_is : (env : List ℤ) (n : ℕ) (x : Target) (l : Link) → IsIn l (links_to env n x) → l.near ≡ n
near_is env n (target.Task class flow args) l h = (from_links n class flow (combinations args env) l h).3
near_is env n (target.Element coll indices) l h = absurd h
near_is env n target.New l h = absurd h
near_is env n target.Null l h = absurd h

pub near_among : (env : List ℤ) (n : ℕ) (xs : List Target) (l : Link) → IsIn l (flat_map (links_to env n) xs) → l.near ≡ n
near_among env n xs l h = let p = from_flat_map (links_to env n) xs l h in near_is env n p.0 l p.2

flat_map-numbered : (env : List ℤ) (n : ℕ) (xs : List Target) → all_links env (map (λ x. (n, x)) xs) ≡ flat_map (links_to env n) xs
flat_map-numbered env n [] = refl
flat_map-numbered env n (x ∷ xs) = ap (λ l. links_to env n x ++ l) (flat_map-numbered env n xs)

-- a target that is listed with the number of a flow is a target of that flow
pub from_by_flow : (g : FlowPlan → List Target) (n : ℕ) (fs : List FlowPlan) (a : ℕ × Target) → IsIn a (by_flow g n fs)
    → (k : ℕ) × (f : FlowPlan) × (slice_get fs k ≡ Some f) × (a.0 ≡ n + k) × IsIn a.1 (g f)
from_by_flow g n [] a i = absurd i
from_by_flow g n (f ∷ fs) a i = elim (from_append a (map (λ x. (n, x)) (g f)) (by_flow g (suc n) fs) i) [
  | inl here ↦ let p = from_map (λ x. (n, x)) (g f) a here in
      (0, f, refl, omega (arith, ap (λ b. b.0) p.2), subst (λ x. IsIn x (g f)) (sym (ap (λ b. b.1) p.2)) p.1)
  | inr later ↦ let p = from_by_flow g (suc n) fs a later in (suc p.0, p.1, p.2, omega (arith, p.3), p.4)
]

module _ (env : List ℤ) (g : FlowPlan → List Target) where
  pub by_flow-links : (n : ℕ) (f : FlowPlan) (fs : List FlowPlan)
      → all_links env (by_flow g n (f ∷ fs)) ≡ flat_map (links_to env n) (g f) ++ all_links env (by_flow g (suc n) fs)
  by_flow-links n f fs =
      flat_map-append (λ (a : ℕ × Target). links_to env a.0 a.1) (map (λ x. (n, x)) (g f)) (by_flow g (suc n) fs)
      ∙ ap (λ l. l ++ all_links env (by_flow g (suc n) fs)) (flat_map-numbered env n (g f))

  -- a link of the flows' targets is a link of one flow's targets
  from_flows : (n : ℕ) (fs : List FlowPlan) (l : Link) → IsIn l (all_links env (by_flow g n fs))
      → (i : ℕ) × (l.near ≡ n + i) × IsSomeAnd (slice_get fs i) (λ f. IsIn l (flat_map (links_to env l.near) (g f)))
  from_flows n [] l h = absurd h
  from_flows n (f ∷ fs) l h =
      elim (from_append l (flat_map (links_to env n) (g f)) (all_links env (by_flow g (suc n) fs)) (rw (by_flow-links n f fs) at h)) [
        | inl a ↦
            let e = near_among env n (g f) l a in
            (0, e ∙ sym (add-zero n), subst (λ m. IsIn l (flat_map (links_to env m) (g f))) (sym e) a)
        | inr b ↦ let p = from_flows (suc n) fs l b in (suc p.0, (let e = p.1 in omega arith), p.2)
      ]

  to_flows : (n : ℕ) (fs : List FlowPlan) (l : Link) (i : ℕ)
      → IsSomeAnd (slice_get fs i) (λ f. IsIn l (flat_map (links_to env (n + i)) (g f)))
      → IsIn l (all_links env (by_flow g n fs))
  to_flows n [] l i h = absurd h
  to_flows n (f ∷ fs) l zero h =
      let k = subst (λ m. IsIn l (flat_map (links_to env m) (g f))) (add-zero n) h in
      rw (by_flow-links n f fs) (IsIn-append_left l (flat_map (links_to env n) (g f)) (all_links env (by_flow g (suc n) fs)) k)
  to_flows n (f ∷ fs) l (suc i) h =
      let k = subst (λ m. IsSomeAnd (slice_get fs i) (λ e. IsIn l (flat_map (links_to env m) (g e)))) (omega arith) h in
      rw (by_flow-links n f fs) (IsIn-append_right l (flat_map (links_to env n) (g f)) (all_links env (by_flow g (suc n) fs)) (to_flows (suc n) fs l i k))

-- the link of an edge into a task, and that of an edge out of a task
abbrev pub link_in : Edge → Link
link_in e = record { near = e.in_flow; far = e.from; far_flow = e.out_flow }

abbrev pub link_out : Edge → Link
link_out e = record { near = e.out_flow; far = e.to; far_flow = e.in_flow }

pub from_edges_in : (t : Task) (ls : List Link) (e : Edge) → IsIn e (map (edge_of_link In t) ls) → (e.to ≡ t) × IsIn (link_in e) ls
from_edges_in t ls e h =
    let p = from_map (edge_of_link In t) ls e h in
    (ap (λ (e : Edge). e.to) p.2, rw (ap link_in p.2) p.1)

pub to_edges_in : (t : Task) (ls : List Link) (e : Edge) → e.to ≡ t → IsIn (link_in e) ls → IsIn e (map (edge_of_link In t) ls)
to_edges_in t ls e q h = subst (λ u. IsIn e (map (edge_of_link In u) ls)) q (IsIn-map (edge_of_link In e.to) ls (link_in e) h)

pub from_edges_out : (t : Task) (ls : List Link) (e : Edge) → IsIn e (map (edge_of_link Out t) ls) → (e.from ≡ t) × IsIn (link_out e) ls
from_edges_out t ls e h =
    let p = from_map (edge_of_link Out t) ls e h in
    (ap (λ (e : Edge). e.from) p.2, rw (ap link_out p.2) p.1)

pub to_edges_out : (t : Task) (ls : List Link) (e : Edge) → e.from ≡ t → IsIn (link_out e) ls → IsIn e (map (edge_of_link Out t) ls)
to_edges_out t ls e q h = subst (λ u. IsIn e (map (edge_of_link Out u) ls)) q (IsIn-map (edge_of_link Out e.from) ls (link_out e) h)

-- a link of a task is one of the flow with the link's number
pub from_task : (P : Plan) (t : Task) (way : Direction) (l : Link) → IsIn l (task_links P t way)
    → IsSomeAnd (slice_get (flows_of P t) l.near) (λ f. IsIn l
    (flat_map (links_to (locals_of P t) l.near) (flow_targets way (locals_of P t) f)))
from_task P t way l h =
    let env = locals_of P t in
    let p = from_flows env (flow_targets way env) 0 (flows_of P t) l h in
    let e : p.0 ≡ l.near = let k = p.1 in omega arith in
    subst (λ i. IsSomeAnd (slice_get (flows_of P t) i) (λ f. IsIn l (flat_map (links_to env l.near) (flow_targets way env f)))) e p.2

pub to_task : (P : Plan) (t : Task) (way : Direction) (l : Link)
    → IsSomeAnd (slice_get (flows_of P t) l.near) (λ f. IsIn l
    (flat_map (links_to (locals_of P t) l.near) (flow_targets way (locals_of P t) f))) → IsIn l (task_links P t way)
to_task P t way l h =
    let env = locals_of P t in
    to_flows env (flow_targets way env) 0 (flows_of P t) l l.near
    (subst (λ m. IsSomeAnd (slice_get (flows_of P t) l.near)
    (λ f. IsIn l (flat_map (links_to env m) (flow_targets way env f)))) (omega arith) h)

-- an edge is one into a task if and only if its link is one of the flow that it goes into
pub in_edge_is : (P : Plan) (t : Task) (e : Edge) → IsIn e (in_edges P t) ↔
    ((e.to ≡ t) × IsSomeAnd (slice_get (flows_of P t) e.in_flow)
    (λ f. IsIn (link_in e) (flat_map (links_to (locals_of P t) e.in_flow) (flow_targets In (locals_of P t) f))))
in_edge_is P t e = (
  λ h. let p = from_edges_in t (task_links P t In) e (rw (sym (in_edges-links P t)) at h) in (p.0, from_task P t In (link_in e) p.1),
  λ h. rw (sym (in_edges-links P t)) (to_edges_in t (task_links P t In) e h.0 (to_task P t In (link_in e) h.1)),
)

pub out_edge_is : (P : Plan) (t : Task) (e : Edge) → IsIn e (out_edges P t) ↔
    ((e.from ≡ t) × IsSomeAnd (slice_get (flows_of P t) e.out_flow)
    (λ f. IsIn (link_out e) (flat_map (links_to (locals_of P t) e.out_flow) (flow_targets Out (locals_of P t) f))))
out_edge_is P t e = (
  λ h. let p = from_edges_out t (task_links P t Out) e (rw (sym (out_edges-links P t)) at h) in (p.0, from_task P t Out (link_out e) p.1),
  λ h. rw (sym (out_edges-links P t)) (to_edges_out t (task_links P t Out) e h.0 (to_task P t Out (link_out e) h.1)),
)

-- the active targets of dependences, by whether the first dependence holds
pub held-none : (first_only : Bool) (d : DepPlan) (ds : List DepPlan) (env : List ℤ) → held_target d env ≡ None
    → held_targets first_only (d ∷ ds) env ≡ held_targets first_only ds env
held-none first_only d ds env e = ap (λ o. held_then first_only o (held_targets first_only ds env)) e

pub held-first : (d : DepPlan) (ds : List DepPlan) (env : List ℤ) (x : Target) → held_target d env ≡ Some x → held_targets true (d ∷ ds) env ≡ x ∷ []
held-first d ds env x e = ap (λ o. held_then true o (held_targets true ds env)) e

pub held-more : (d : DepPlan) (ds : List DepPlan) (env : List ℤ) (x : Target) → held_target d env ≡ Some x
    → held_targets false (d ∷ ds) env ≡ x ∷ held_targets false ds env
held-more d ds env x e = ap (λ o. held_then false o (held_targets false ds env)) e

-- whether a flow's active targets stand for a link, by its first dependence
module _ (env : List ℤ) (n : ℕ) (l : Link) (d : DepPlan) (ds : List DepPlan) where
  pub any-none : (first_only : Bool) (b : Bool) → held_target d env ≡ None
      → IsTrue b ↔ IsIn l (flat_map (links_to env n) (held_targets first_only ds env))
      → IsTrue b ↔ IsIn l (flat_map (links_to env n) (held_targets first_only (d ∷ ds) env))
  any-none first_only b e w = rw (held-none first_only d ds env e) w

  pub any-here : (first_only : Bool) (x : Target) → held_target d env ≡ Some x → IsIn l (links_to env n x)
      → IsIn l (flat_map (links_to env n) (held_targets first_only (d ∷ ds) env))
  any-here true x e h = rw (held-first d ds env x e) (IsIn-append_left l (links_to env n x) [] h)
  any-here false x e h = rw (held-more d ds env x e) (IsIn-append_left l (links_to env n x) (flat_map (links_to env n) (held_targets false ds env)) h)

  pub any-later : (first_only b : Bool) (x : Target) → first_only ≡ false → held_target d env ≡ Some x
      → (IsIn l (links_to env n x) → ⊥) → IsTrue b ↔ IsIn l (flat_map (links_to env n) (held_targets first_only ds env))
      → IsTrue b ↔ IsIn l (flat_map (links_to env n) (held_targets first_only (d ∷ ds) env))
  any-later true b x k e not_here w = absurd (false≢true (sym k))
  any-later false b x k e not_here w =
      rw (held-more d ds env x e) (
        λ t. IsIn-append_right l (links_to env n x) (flat_map (links_to env n) (held_targets false ds env)) (w.0 t),
        λ h. elim (from_append l (links_to env n x) (flat_map (links_to env n) (held_targets false ds env)) h) [ inl a ↦ absurd (not_here a) | inr k ↦ w.1 k ],
      )

-- the link of an edge, for the task whose edge it is
abbrev pub link_of : Direction → Edge → Link
link_of d e = record { near = near_flow d e; far = far_task d e; far_flow = far_flow d e }

-- the links that these dependences of a flow stand for
abbrev pub links_of : Direction → Plan → Task → ℕ → FlowPlan → List DepPlan → List Link
links_of d P t n f ds = flat_map (links_to (locals_of P t) n) (held_targets (first_only d f.kind) ds (locals_of P t))

-- these dependences of the flow stand for the edge
abbrev pub IsGiven : Direction → Plan → Task → Edge → FlowPlan → List DepPlan → Type 0
IsGiven d P t e f ds = IsIn (link_of d e) (links_of d P t (near_flow d e) f ds)

-- whether an edge is one of a task, in the direction
edge_is : (d : Direction) (P : Plan) (t : Task) (e : Edge) → IsIn e (edges_of d P t)
    ↔ ((near_task d e ≡ t) × IsSomeAnd (slice_get (flows_of P t) (near_flow d e)) (λ f. IsGiven d P t e f (dependences d f)))
edge_is In P t e = in_edge_is P t e
edge_is Out P t e = out_edge_is P t e

pub edge-by : (d : Direction) (P : Plan) (t : Task) (e : Edge) (f : FlowPlan) → IsNearFlow d P t e f
    → IsIn e (edges_of d P t) ↔ IsGiven d P t e f (dependences d f)
edge-by d P t e f near =
    let is = rw near.1 at (edge_is d P t e) in
    (λ h. (is.0 h).1, λ h. is.1 (near.0, h))

-- if something holds of an optional flow, there is a flow
some_flow : (Q : FlowPlan → Type 0) (o : Option FlowPlan) → IsSomeAnd o Q → (f : FlowPlan) × (o ≡ Some f)
some_flow Q None h = absurd h
some_flow Q (Some f) h = (f, refl)

pub edge-none : (d : Direction) (P : Plan) (t : Task) (e : Edge) → ((f : FlowPlan) → IsNearFlow d P t e f → ⊥)
    → IsIn e (edges_of d P t) → ⊥
edge-none d P t e none h =
    let k = (edge_is d P t e).0 h in
    let p = some_flow _ (slice_get (flows_of P t) (near_flow d e)) k.1 in
    none p.0 (k.0, p.1)

-- whether an edge comes from the first k dependences of its flow: into the task, out of it, and in either direction
module _ (P : Plan) (t : Task) (e : Edge) (f : FlowPlan) (k : ℕ) where
  in_before-is : slice_get (flows_of P t) e.in_flow ≡ Some f
      → IsIn e (in_edges_before P t e.in_flow k) ↔ ((e.to ≡ t) × IsGiven In P t e f (take k f.ins))
  unfolding in_edges_before
  in_before-is here =
      let env = locals_of P t in
      let xs = held_targets (is_data f.kind) (take k f.ins) env in
      rw (here, edges_into-among t env e.in_flow xs) (
        λ h. from_edges_in t (flat_map (links_to env e.in_flow) xs) e h,
        λ h. to_edges_in t (flat_map (links_to env e.in_flow) xs) e h.0 h.1,
      )

  out_before-is : slice_get (flows_of P t) e.out_flow ≡ Some f
      → IsIn e (out_edges_before P t e.out_flow k) ↔ ((e.from ≡ t) × IsGiven Out P t e f (take k f.outs))
  unfolding out_edges_before
  out_before-is here =
      let env = locals_of P t in
      let xs = held_targets false (take k f.outs) env in
      rw (here, items_to-among t env e.out_flow xs) (
        λ h. from_edges_out t (flat_map (links_to env e.out_flow) xs) e h,
        λ h. to_edges_out t (flat_map (links_to env e.out_flow) xs) e h.0 h.1,
      )

  before-is : (d : Direction) → slice_get (flows_of P t) (near_flow d e) ≡ Some f
      → IsIn e (edges_before d P t (near_flow d e) k) ↔ ((near_task d e ≡ t) × IsGiven d P t e f (take k (dependences d f)))
  before-is In here = in_before-is here
  before-is Out here = out_before-is here

  pub before-by : (d : Direction) → IsNearFlow d P t e f
      → IsIn e (edges_before d P t (near_flow d e) k) ↔ IsGiven d P t e f (take k (dependences d f))
  before-by d near =
      let is = before-is d near.1 in
      (λ h. (is.0 h).1, λ h. is.1 (near.0, h))

-- without a flow, and without dependences, there are no edges
none_of : (g : FlowPlan → List Edge) → ((f : FlowPlan) → g f ≡ []) → (o : Option FlowPlan) → option_map_or g o [] ≡ []
none_of g h None = refl
none_of g h (Some f) = h f

pub before-no_dependences : (d : Direction) (P : Plan) (t : Task) (n : ℕ) → edges_before d P t n 0 ≡ []
unfolding in_edges_before out_edges_before
before-no_dependences In P t n = none_of _ (λ f. refl) (slice_get (flows_of P t) n)
before-no_dependences Out P t n = none_of _ (λ f. refl) (slice_get (flows_of P t) n)
