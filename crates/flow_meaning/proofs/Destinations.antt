-- The targets of a flow's out dependences, and the flow that a write-back comes from.
use Rattle.std.proofs.Common.{◌≡◌, ℕ, ℤ, Bool, true, false, eqb, List, [], ◌∷◌, length, map, refl, ap, sym, ◌∙◌, subst}
use Rattle.std.proofs.Common.{Option, Some, None, Result, Ok, Err, slice_get, inl, inr, arith}
use Rattle.std.proofs.lemmas.Bool.{and_parts}
use Rattle.std.specs.Result.{result_unwrap_or}
use Rattle.std.specs.Option.{option_map_or}
use Rattle.ptg_base.specs.Lists.{IsIn}
use Rattle.ptg_base.specs.Task.{Task}
use Rattle.ptg_base.specs.declared.place.Place.{Place}
use Rattle.ptg_base.specs.declared.edge.WriteBack.{WriteBack}
use Rattle.ptg_base.specs.declared.edge.Item.TheVariants as item
use Rattle.term_core.specs.Term.{Term}
use Rattle.ptg_base.specs.Returns.{and_then}
use Rattle.term_core.specs.declared.fault.ExprFault.{ExprFault}
use Rattle.term_core.specs.declared.flow.FlowKind.{FlowKind}
use Rattle.term_core.specs.declared.flow.FlowKind.TheVariants.{Read, Write, Rw, Ctl}
use Rattle.list_lemmas.proofs.Members.{from_flat_map, member_passes}
use Rattle.plan_core.specs.declared.class.ClassPlan.{ClassPlan}
use Rattle.plan_core.specs.declared.flow.DepPlan.{DepPlan}
use Rattle.plan_core.specs.declared.flow.FlowPlan.{FlowPlan}
use Rattle.plan_core.specs.declared.plan.Plan.{Plan}
use Rattle.plan_core.specs.declared.shape.Shape.{Shape}
use Rattle.plan_core.specs.declared.target.Target.{Target}
use Rattle.plan_core.specs.declared.target.Target.TheVariants as target
use Rattle.plan_core.specs.Flows.{is_dependence, is_destination, is_out_target}
use Rattle.plan_core.specs.Kinds.{is_data}
use Rattle.dep_iter.specs.Tasks.{IsTask, flows_of, locals_of, task}
use Rattle.dep_iter.specs.Edges.{edge}
use Rattle.dep_iter.specs.Active.{active_outs, flow_outs, held_target, held_targets, held_then, target_by, guard_value}
use Rattle.dep_iter.specs.Arguments.{place_of, value_or_zero}
use Rattle.dep_iter.specs.Items.{items, items_to}
use Rattle.flow_meaning.proofs.Sizes.{coll_at}
use Rattle.flow_meaning.proofs.SourceEdges.{class_of, passing}
use Rattle.flow_meaning.proofs.Starting.{flow_well}
use Rattle.dep_iter.proofs.CallerLemmas.{from_by_flow}

module _ (passes : Target → Bool) (locals : ℕ) (env : List ℤ) (x : Target) where
  by_guard : (d : DepPlan) → is_dependence locals passes d ≡ true → (g : Result Bool ExprFault)
      → result_unwrap_or (and_then g (λ b. Ok (target_by d b))) None ≡ Some x → passes x ≡ true
  by_guard d h (Ok b) e = passing locals passes d b x h e
  by_guard d h (Err f) e = absurd cc

  first_or_later : (d : DepPlan) (ds : List DepPlan) → is_dependence locals passes d ≡ true
      → (IsIn x (held_targets false ds env) → passes x ≡ true) → (o : Option Target) → held_target d env ≡ o
      → IsIn x (held_then false o (held_targets false ds env)) → passes x ≡ true
  first_or_later d ds h rest None is i = rest i
  first_or_later d ds h rest (Some y) is i = elim i [
    | inl q ↦ by_guard d h (guard_value d.guard env) (is ∙ ap (λ z. Some z) (sym q))
    | inr later ↦ rest later
  ]

  -- an active target is one that its dependence may have
  held_passes : (ds : List DepPlan) → ((d : DepPlan) → IsIn d ds → is_dependence locals passes d ≡ true) → IsIn x (held_targets false ds env) → passes x ≡ true
  held_passes [] all i = absurd i
  held_passes (d ∷ ds) all i = first_or_later d ds (all d (inl refl)) (λ j. held_passes ds (λ c k. all c (inr k)) j) (held_target d env) refl i

-- an active target of an out dependence is one that the flow may have
pub destination : (P : Plan) (t : Task) (job : IsTask P t) (n : ℕ) (f : FlowPlan) → slice_get (flows_of P t) n ≡ Some f
    → (x : Target) → IsIn x (flow_outs (locals_of P t) f) → is_destination P.classes P.spaces P.colls
    (length (class_of P t job).space.defs) f x ≡ true
destination P t job n f here x i =
    let locals = length (class_of P t job).space.defs in
    let passes = is_destination P.classes P.spaces P.colls locals f in
    held_passes passes locals (locals_of P t) x f.outs (λ d k. member_passes (is_dependence locals passes) f.outs
    (and_parts _ _ (flow_well P t job n f here)).1 d k) i

-- a write-back of a flow goes to an element
written_to_element : (t : Task) (env : List ℤ) (n : ℕ) (x : Target) (w : WriteBack)
    → IsIn (item.Write w) (items_to t env n x) → (coll : ℕ) × (indices : List Term) × (x ≡ target.Element coll indices)
    × (w.flow ≡ n) × (w.place ≡ place_of coll indices env)
written_to_element t env n (target.Task class flow args) w i = absurd (no_write _ i)
  where
    no_write : (cs : List (List ℤ)) → IsIn (item.Write w) (map (λ params. item.Edge (edge t n (task class params) flow)) cs) → ⊥
    no_write [] j = j
    no_write (c ∷ cs) j = elim j [ inl q ↦ cc | inr later ↦ no_write cs later ]
written_to_element t env n (target.Element coll indices) w i = elim i [
  | inl q ↦ let same : w ≡ record { from = t; flow = n; place = place_of coll indices env } = cc in
      (coll, indices, refl, ap (λ (v : WriteBack). v.flow) same, ap (λ (v : WriteBack). v.place) same)
  | inr never ↦ absurd never
]
written_to_element t env n target.New w i = absurd i
written_to_element t env n target.Null w i = absurd i

-- a flow that writes to an element carries a tile
carries_tile : (classes : List ClassPlan) (k : FlowKind) (coll : ℕ) (indices : List Term)
    → is_out_target classes k (target.Element coll indices) ≡ true → is_data (Some k) ≡ true
carries_tile classes Read coll indices h = refl
carries_tile classes Write coll indices h = refl
carries_tile classes Rw coll indices h = refl
carries_tile classes Ctl coll indices h = h

-- the flow of a write-back, and that its datatype is that of the collection
pub record IsWritingFlow (P : Plan) (t : Task) (w : WriteBack) : Type 0 where
  pub flow : FlowPlan
  pub here : slice_get (flows_of P t) w.flow ≡ Some flow
  pub carries : is_data (Some flow.kind) ≡ true
  pub same_type : option_map_or (λ (s : Shape). eqb s.datatype flow.datatype) (slice_get P.colls w.place.coll) false ≡ true

pub writing_flow : (P : Plan) (t : Task) → IsTask P t → (w : WriteBack) → IsIn (item.Write w) (items P t) → IsWritingFlow P t w
unfolding items
writing_flow P t job w among =
    let env = locals_of P t in
    let a = from_flat_map (λ (a : ℕ × Target). items_to t env a.0 a.1) (active_outs P t) (item.Write w) among in
    let at = from_by_flow (flow_outs env) 0 (flows_of P t) a.0 a.1 in
    let e = written_to_element t env a.0.0 a.0.1 w a.2 in
    let passes = is_destination P.classes P.spaces P.colls (length (class_of P t job).space.defs) at.1 in
    let element : passes (target.Element e.0 e.1) ≡ true = subst (λ x. passes x ≡ true) e.2 (destination P t job at.0 at.1 at.2 a.0.1 at.4) in
    let parts = and_parts _ _ element in
    let kind = carries_tile P.classes at.1.kind e.0 e.1 parts.1 in
    let type : option_map_or (λ (s : Shape). eqb s.datatype at.1.datatype) (slice_get P.colls e.0) false ≡ true = (and_parts _ _ parts.0).1 in
    let coll : e.0 ≡ w.place.coll = sym (coll_at e.0 (map (value_or_zero env) e.1)) ∙ ap (λ (p : Place). p.coll) (sym e.4) in
    record {
      flow = at.1;
      here = subst (λ n. slice_get (flows_of P t) n ≡ Some at.1) (omega (arith, at.3, e.3)) at.2;
      carries = kind;
      same_type = subst (λ n. option_map_or (λ (s : Shape). eqb s.datatype at.1.datatype) (slice_get P.colls n) false ≡ true) coll type;
    }
