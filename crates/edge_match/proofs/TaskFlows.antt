-- The edges into a task and what it sends, flow by flow.
use Rattle.std.proofs.Common.{◌≡◌, ◌≢◌, ℕ, zero, suc, ◌+◌, ℤ, List, [], ◌∷◌, ◌++◌, length, map, refl, ap, sym, ◌∙◌}
use Rattle.std.proofs.Common.{subst, add-zero, Option, Some, None, slice_get, inl, inr}
use Rattle.std.proofs.Common.{arith}
use Rattle.std.specs.List.{filter_map, flat_map}
use Rattle.std.proofs.lemmas.List.Concat.{flat_map-append}
use Rattle.std.proofs.lemmas.List.Folds.{flat_map-map}
use Rattle.std.specs.Option.{option_map_or}
use Rattle.ptg_base.specs.Lists.{HasNoRepeats, IsIn}
use Rattle.ptg_base.specs.Task.{Task}
use Rattle.ptg_base.specs.declared.edge.Edge.{Edge}
use Rattle.ptg_base.specs.declared.edge.Item.{Item}
use Rattle.ptg_base.specs.declared.edge.Item.TheVariants as item
use Rattle.plan_core.specs.declared.flow.FlowPlan.{FlowPlan}
use Rattle.plan_core.specs.declared.plan.Plan.{Plan}
use Rattle.plan_core.specs.declared.target.Target.{Target}
use Rattle.plan_core.specs.declared.target.Target.TheVariants as target
use Rattle.list_lemmas.proofs.Distinct.{HasNoRepeats-append}
use Rattle.list_lemmas.proofs.Members.{from_append, from_flat_map, from_map}
use Rattle.dep_iter.specs.declared.source.Source.{Source}
use Rattle.dep_iter.specs.declared.source.Source.TheVariants as source
use Rattle.dep_iter.specs.Tasks.{flows_of, locals_of, task}
use Rattle.dep_iter.specs.Active.{by_flow, flow_ins, flow_outs, by_number}
use Rattle.dep_iter.specs.Arguments.{combinations}
use Rattle.dep_iter.specs.Edges.{data_source, edge, edges_into, in_edges, source_among}
use Rattle.dep_iter.specs.Items.{edge_of, item_flow, items, items_to, write_of}
use Rattle.dep_iter.specs.Links.{links_to}
use Rattle.dep_iter.proofs.CallerLemmas.{edges_into-among, from_edges_in, link_in, near_among}
use Rattle.edge_match.specs.Flows.{edges_into_flow, items_of_flow}

by_flow-is : {X : Type 0} (g : ℕ → Target → List X) (targets : FlowPlan → List Target) (n : ℕ) (fs : List FlowPlan)
    → flat_map (λ (a : ℕ × Target). g a.0 a.1) (by_flow targets n fs) ≡ by_number (λ m f. flat_map (g m) (targets f)) n fs
by_flow-is g targets n [] = refl
by_flow-is g targets n (f ∷ fs) =
    let each = λ (a : ℕ × Target). g a.0 a.1 in
    let later = by_flow targets (suc n) fs in
    flat_map-append each (map (λ x. (n, x)) (targets f)) later
    ∙ (ap (λ l. l ++ flat_map each later) (flat_map-map each (λ x. (n, x)) (targets f))
    ∙ ap (λ l. flat_map (g n) (targets f) ++ l) (by_flow-is g targets (suc n) fs))

pub in_edges-flows : (P : Plan) (t : Task) → in_edges P t ≡ by_number (edges_into_flow t (locals_of P t)) 0 (flows_of P t)
unfolding in_edges
in_edges-flows P t = by_flow-is (edges_into t (locals_of P t)) (flow_ins (locals_of P t)) 0 (flows_of P t)

pub items-flows : (P : Plan) (t : Task) → items P t ≡ by_number (items_of_flow t (locals_of P t)) 0 (flows_of P t)
unfolding items
items-flows P t = by_flow-is (items_to t (locals_of P t)) (flow_outs (locals_of P t)) 0 (flows_of P t)

-- what holds of a flow and of those after it holds of all
pub each_more : (Q : ℕ → FlowPlan → Type 0) (n : ℕ) (f : FlowPlan) (fs : List FlowPlan) → Q n f
    → ((i : ℕ) (g : FlowPlan) → slice_get fs i ≡ Some g → Q (suc n + i) g)
    → (i : ℕ) (g : FlowPlan) → slice_get (f ∷ fs) i ≡ Some g → Q (n + i) g
each_more Q n f fs here later zero g h = let same : f ≡ g = cc in rw (add-zero, sym same) here
each_more Q n f fs here later (suc i) g h = let e : suc n + i ≡ n + suc i = omega arith in subst (λ m. Q m g) e (later i g h)

-- an element of the joined lists is one of some flow's list
module _ {X : Type 0} (g : ℕ → FlowPlan → List X) where
  pub from_by_number : (n : ℕ) (fs : List FlowPlan) (x : X) → IsIn x (by_number g n fs)
      → (i : ℕ) × (f : FlowPlan) × ((slice_get fs i ≡ Some f) × IsIn x (g (n + i) f))
  from_by_number n [] x h = absurd h
  from_by_number n (f ∷ fs) x h = elim (from_append x (g n f) (by_number g (suc n) fs) h) [
    | inl a ↦ (0, f, (refl, rw add-zero a))
    | inr b ↦
        let p = from_by_number (suc n) fs x b in
        let q : suc n + p.0 ≡ n + suc p.0 = omega arith in
        (suc p.0, p.1, (p.2.0, subst (λ m. IsIn x (g m p.1)) q p.2.1))
  ]

  -- the joined lists repeat nothing, if no flow's list does and each element has the number of its flow
  pub once_by_number : (number : X → ℕ) → ((n : ℕ) (f : FlowPlan) (x : X) → IsIn x (g n f) → number x ≡ n) → (n : ℕ) (fs : List FlowPlan)
      → ((i : ℕ) (f : FlowPlan) → slice_get fs i ≡ Some f → HasNoRepeats (g (n + i) f)) → HasNoRepeats (by_number g n fs)
  once_by_number number is n [] once = tt
  once_by_number number is n (f ∷ fs) once =
      let later = λ (i : ℕ) (h : FlowPlan) (here : slice_get fs i ≡ Some h).
      let q : n + suc i ≡ suc n + i = omega arith in subst (λ m. HasNoRepeats (g m h)) q (once (suc i) h here) in
      HasNoRepeats-append (g n f) (by_number g (suc n) fs) (rw add-zero at (once 0 f refl)) (once_by_number number is (suc n) fs later) (λ x h k.
      let a = is n f x h in
      let p = from_by_number (suc n) fs x k in
      let b = is (suc n + p.0) p.1 x p.2.1 in
      omega arith)

-- which flow an edge goes into, and which flow sends an item
pub into_flow_is : (t : Task) (env : List ℤ) (n : ℕ) (f : FlowPlan) (e : Edge) → IsIn e (edges_into_flow t env n f) → e.in_flow ≡ n
into_flow_is t env n f e h =
    let xs = flow_ins env f in
    near_among env n xs (link_in e) (from_edges_in t (flat_map (links_to env n) xs) e (rw edges_into-among at h)).1

sent_is : (t : Task) (env : List ℤ) (n : ℕ) (x : Target) (i : Item) → IsIn i (items_to t env n x) → item_flow i ≡ n
sent_is t env n (target.Task class flow args) i h = let p = from_map
    (λ params. item.Edge (edge t n (task class params) flow)) (combinations args env) i h in ap item_flow p.2
sent_is t env n (target.Element coll indices) i h = elim h [ inl e ↦ ap item_flow e | inr none ↦ absurd none ]
sent_is t env n target.New i h = absurd h
sent_is t env n target.Null i h = absurd h

pub sent_flow_is : (t : Task) (env : List ℤ) (n : ℕ) (f : FlowPlan) (i : Item) → IsIn i (items_of_flow t env n f) → item_flow i ≡ n
sent_flow_is t env n f i h = let p = from_flat_map (items_to t env n) (flow_outs env f) i h in sent_is t env n p.0 i p.2

-- an item of a task is sent by the flow with its number
pub item_flow-sends : (P : Plan) (t : Task) (x : Item) → IsIn x (items P t)
    → (f : FlowPlan) × ((slice_get (flows_of P t) (item_flow x) ≡ Some f)
    × IsIn x (items_of_flow t (locals_of P t) (item_flow x) f))
item_flow-sends P t x h =
    let env = locals_of P t in
    let p = from_by_number (items_of_flow t env) 0 (flows_of P t) x (rw (sym (items-flows P t)) h) in
    let k = sent_flow_is t env (0 + p.0) p.1 x p.2.1 in
    let i : p.0 ≡ item_flow x = omega arith in
    (p.1, (subst (λ m. slice_get (flows_of P t) m ≡ Some p.1) i p.2.0, subst (λ m. IsIn x (items_of_flow t env m p.1)) (sym k) p.2.1))

-- a source other than Nothing is that of a flow
some_flow : {A : Type 0} (o : Option A) (g : A → Source) (s : Source) → option_map_or g o source.Nothing ≡ s → s ≢ source.Nothing → (f : A) × (o ≡ Some f)
some_flow None g s e h = absurd (h (sym e))
some_flow (Some f) g s e h = (f, refl)

pub source_flow : (P : Plan) (t : Task) (n : ℕ) (s : Source) → data_source P t n ≡ s → s ≢ source.Nothing
    → (f : FlowPlan) × (slice_get (flows_of P t) n ≡ Some f)
unfolding data_source
source_flow P t n s e h = some_flow (slice_get (flows_of P t) n) _ s e h

-- there are as many items as edges and write-backs together
pub length-items : (is : List Item) → length is ≡ length (filter_map edge_of is) + length (filter_map write_of is)
length-items [] = refl
length-items (item.Edge e ∷ is) = let k = length-items is in omega arith
length-items (item.Write w ∷ is) = let k = length-items is in omega arith

-- the source of a flow, by its in dependences
pub source-is : (P : Plan) (t : Task) (n : ℕ) (f : FlowPlan) (env : List ℤ) → env ≡ locals_of P t → slice_get (flows_of P t) n ≡ Some f
    → data_source P t n ≡ source_among t env n (flow_ins env f)
unfolding data_source
source-is P t n f env locals here = rw (here, locals) refl
