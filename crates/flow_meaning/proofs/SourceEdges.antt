-- If the source of a data flow is an edge, that edge is one of those into the task.
use Rattle.std.proofs.Common.{◌≡◌, ℕ, zero, suc, ◌+◌, ℤ, pos, Bool, true, false, not, cond, is_some, ◌&&◌, ◌||◌, List}
use Rattle.std.proofs.Common.{[], ◌∷◌, ◌++◌, length, map, refl, ap, sym, ◌∙◌, subst, add-zero, Option, Some, None}
use Rattle.std.proofs.Common.{slice_get, IsSomeAnd, Result, Ok, Err, is_ok, ◌⊎◌, inl, inr, arith}
use Rattle.std.proofs.lemmas.Bool.{false≢true, and_parts}
use Rattle.std.specs.Prelude.{option_map}
use Rattle.std.specs.List.{flat_map, list_all, list_any}
use Rattle.std.specs.Option.{option_map_or}
use Rattle.std.specs.Result.{result_unwrap_or}
use Rattle.ptg_base.specs.Lists.{IsIn}
use Rattle.ptg_base.specs.Task.{Task}
use Rattle.ptg_base.specs.declared.edge.Edge.{Edge}
use Rattle.ptg_base.specs.Returns.{and_then}
use Rattle.term_core.specs.Value.{value, map_fault}
use Rattle.term_core.specs.declared.fault.ExprFault.{ExprFault}
use Rattle.term_core.specs.declared.flow.FlowKind.{FlowKind}
use Rattle.term_core.specs.declared.flow.FlowKind.TheVariants.{Read, Write, Rw, Ctl}
use Rattle.term_core.specs.declared.space.ClassSpace.{ClassSpace}
use Rattle.term_core.specs.declared.direction.Direction.TheVariants.{In}
use Rattle.range_space.specs.declared.fault.SpanFault.{SpanFault}
use Rattle.range_space.specs.declared.fault.SpanFault.TheVariants.{Expr}
use Rattle.list_lemmas.proofs.Members.{IsIn-append_left, IsIn-append_right, IsIn-flat_map, IsIn-map, from_append, member_passes}
use Rattle.list_lemmas.proofs.Places.{slice_get_there, slice_get_below, IsIn-slice_get}
use Rattle.list_lemmas.proofs.Options.{none_from_option_map}
use Rattle.plan_core.specs.declared.class.ClassPlan.{ClassPlan}
use Rattle.plan_core.specs.declared.flow.DepPlan.{DepPlan}
use Rattle.plan_core.specs.declared.flow.FlowPlan.{FlowPlan}
use Rattle.plan_core.specs.declared.plan.Plan.{Plan}
use Rattle.plan_core.specs.declared.target.Arg.{Arg}
use Rattle.plan_core.specs.declared.target.Arg.TheVariants.{One, Span}
use Rattle.plan_core.specs.declared.target.Target.{Target}
use Rattle.plan_core.specs.declared.target.Target.TheVariants as target
use Rattle.plan_core.specs.Closed.{is_closed_option, is_span}
use Rattle.plan_core.specs.Flows.{is_dependence, is_flow, is_in_target, is_second, is_source}
use Rattle.plan_core.specs.Kinds.{is_data}
use Rattle.dep_iter.specs.declared.source.Source.{Source}
use Rattle.dep_iter.specs.declared.source.Source.TheVariants as source
use Rattle.dep_iter.specs.Tasks.{IsTask, flows_of, locals_of, task}
use Rattle.dep_iter.specs.Active.{active_ins, active_target, by_flow, flow_ins, flow_targets, guard_value, held_targets, held_then, target_by, held_target}
use Rattle.dep_iter.specs.Arguments.{arg_values, combinations, single_value}
use Rattle.dep_iter.specs.Edges.{data_source, edge, edges_into, in_edges, source_among, source_at}
use Rattle.dep_iter.specs.Well.{IsWellTask, are_well, first_ill_flow, has_arg, has_arguments, has_hints, ill_part, ill_part_of, is_well_flow, is_well_then}
use Rattle.dep_iter.specs.Links.{link, links_to}
use Rattle.dep_iter.proofs.CallerLemmas.{in_edge_is, link_in}

-- the values of an argument that is no range: one value, or its fault
abbrev listed_number : Result ℤ ExprFault → Result (List ℤ) SpanFault
listed_number r = and_then (map_fault Expr r) (λ z. Ok (z ∷ []))

one_value : (r : Result ℤ ExprFault) → is_ok (listed_number r) ≡ true → result_unwrap_or (listed_number r) [] ≡ result_unwrap_or r (pos 0) ∷ []
one_value (Ok z) h = refl
one_value (Err e) h = absurd (false≢true h)

single : (env : List ℤ) (a : Arg) → has_arg env a ≡ true → is_span a ≡ false → result_unwrap_or (arg_values a env) [] ≡ single_value env a ∷ []
single env (One e) h s = one_value (value e env) h
single env (Span r) h s = absurd (false≢true (sym s))

no_span : (a b : Bool) → not (a || b) ≡ true → (a ≡ false) × (not b ≡ true)
no_span true b h = absurd (false≢true h)
no_span false b h = (refl, h)

-- arguments without a range among them have one combination
one_combination : (env : List ℤ) (args : List Arg) → list_all (has_arg env) args ≡ true
    → not (list_any is_span args) ≡ true → combinations args env ≡ map (single_value env) args ∷ []
one_combination env [] h s = refl
one_combination env (a ∷ args) h s =
    let well = and_parts (has_arg env a) (list_all (has_arg env) args) h in
    let plain = no_span (is_span a) (list_any is_span args) s in
    let first = single env a well.0 plain.0 in
    let rest = one_combination env args well.1 plain.1 in
    ap (λ vs. flat_map (λ v. map (λ ws. v ∷ ws) (combinations args env)) vs) first ∙ ap (λ cs. map (λ ws. single_value env a ∷ ws) cs ++ []) rest

-- an active target is that of one of the dependences, and its arguments have their values
pub record IsHeld (env : List ℤ) (ds : List DepPlan) (x : Target) : Type 0 where
  pub dependence : DepPlan
  pub among : IsIn dependence ds
  pub by : Bool
  pub target : target_by dependence by ≡ Some x
  pub well : has_arguments env x ≡ true

by_guard : (d : DepPlan) (g : Result Bool ExprFault) (x : Target) → and_then g (λ b. Ok (target_by d b)) ≡ Ok (Some x) → (b : Bool) × (target_by d b ≡ Some x)
by_guard d (Ok b) x e = (b, cc)
by_guard d (Err f) x e = absurd cc

held_step : (env : List ℤ) (d : DepPlan) (ds : List DepPlan) (x : Target) (rest : List Target)
    (r : Result (Option Target) ExprFault) → active_target d env ≡ r →
    held_then true (result_unwrap_or r None) (held_targets true ds env) ≡ x ∷ rest → is_well_then true env r (are_well true env ds) ≡ true →
    (held_targets true ds env ≡ x ∷ rest → are_well true env ds ≡ true → IsHeld env ds x) → IsHeld env (d ∷ ds) x
held_step env d ds x rest (Err f) is h w later = absurd (false≢true w)
held_step env d ds x rest (Ok None) is h w later =
    let l = later h w in record { dependence = l.dependence; among = inr l.among; by = l.by; target = l.target; well = l.well }
held_step env d ds x rest (Ok (Some y)) is h w later =
    let same : y ≡ x = cc in
    let g = by_guard d (guard_value d.guard env) y is in
    record { dependence = d; among = inl refl; by = g.0; target = g.1 ∙ ap (λ z. Some z) same; well = subst (λ z. has_arguments env z ≡ true) same w }

held : (env : List ℤ) (ds : List DepPlan) (x : Target) (rest : List Target) → held_targets true ds env ≡ x ∷ rest
    → are_well true env ds ≡ true → IsHeld env ds x
held env [] x rest h w = absurd cc
held env (d ∷ ds) x rest h w = held_step env d ds x rest (active_target d env) refl h w (λ a b. held env ds x rest a b)

-- each target of a dependence that passes the test passes too
pub passing : (locals : ℕ) (passes : Target → Bool) (d : DepPlan) (b : Bool) (x : Target)
    → is_dependence locals passes d ≡ true → target_by d b ≡ Some x → passes x ≡ true
passing locals passes d true x h e =
    let p = and_parts (is_closed_option locals d.guard && passes d.yes) (is_second passes d.guard d.no) h in
    let q = and_parts (is_closed_option locals d.guard) (passes d.yes) p.0 in
    let same : d.yes ≡ x = cc in
    subst (λ z. passes z ≡ true) same q.1
passing locals passes d false x h e =
    let p = and_parts (is_closed_option locals d.guard && passes d.yes) (is_second passes d.guard d.no) h in
    second d.no e p.1
  where
    second : (o : Option Target) → o ≡ Some x → is_second passes d.guard o ≡ true → passes x ≡ true
    second None e h = absurd cc
    second (Some y) e h =
        let same : y ≡ x = cc in
        subst (λ z. passes z ≡ true) same (and_parts (is_some d.guard) (passes y) h).1

-- a task that is the source of a data flow is named without ranges
plain_args : (P : Plan) (k : FlowKind) (class flow : ℕ) (args : List Arg) → is_data (Some k) ≡ true
    → is_in_target P.classes k (target.Task class flow args) ≡ true → not (list_any is_span args) ≡ true
plain_args P Read class flow args d h = (and_parts _ _ h).1
plain_args P Write class flow args d h = absurd (false≢true h)
plain_args P Rw class flow args d h = (and_parts _ _ h).1
plain_args P Ctl class flow args d h = absurd (false≢true d)

-- a target of a flow is one of the active ones
in_by_flow : (targets : FlowPlan → List Target) (n : ℕ) (fs : List FlowPlan) (i : ℕ) (f : FlowPlan) (x : Target)
    → slice_get fs i ≡ Some f → IsIn x (targets f) → IsIn {A = ℕ × Target} (n + i, x) (by_flow targets n fs)
in_by_flow targets n [] i f x e h = absurd cc
in_by_flow targets n (g ∷ fs) zero f x e h =
    let same : g ≡ f = cc in
    IsIn-append_left (n + 0, x) (map (λ y. (n, y)) (targets g)) (by_flow targets (suc n) fs)
    (subst (λ m. IsIn {A = ℕ × Target} (m, x) (map (λ y. (n, y)) (targets g))) (sym (add-zero n))
    (IsIn-map (λ y. (n, y)) (targets g) x (subst (λ z. IsIn x (targets z)) (sym same) h)))
in_by_flow targets n (g ∷ fs) (suc i) f x e h =
    let m : suc n + i ≡ n + suc i = omega arith in
    IsIn-append_right (n + suc i, x) (map (λ y. (n, y)) (targets g)) (by_flow targets (suc n) fs)
    (subst (λ k. IsIn {A = ℕ × Target} (k, x) (by_flow targets (suc n) fs)) m (in_by_flow targets (suc n) fs i f x e h))

-- no flow of a well task is ill
well_first : (env : List ℤ) (g : FlowPlan) (n : ℕ) (fs : List FlowPlan) (b : Bool) → is_well_flow env g ≡ b
    → cond b (first_ill_flow env (suc n) fs) (Some n) ≡ None
    → (is_well_flow env g ≡ true) × (first_ill_flow env (suc n) fs ≡ None)
well_first env g n fs true b e = (b, e)
well_first env g n fs false b e = absurd cc

well_flow : (env : List ℤ) (n : ℕ) (fs : List FlowPlan) (i : ℕ) (f : FlowPlan) → first_ill_flow env n fs ≡ None
    → slice_get fs i ≡ Some f → is_well_flow env f ≡ true
well_flow env n [] i f w e = absurd cc
well_flow env n (g ∷ fs) zero f w e =
    let same : g ≡ f = cc in
    subst (λ z. is_well_flow env z ≡ true) same (well_first env g n fs (is_well_flow env g) refl w).0
well_flow env n (g ∷ fs) (suc i) f w e = well_flow env (suc n) fs i f (well_first env g n fs (is_well_flow env g) refl w).1 e

no_ill_flow : (env : List ℤ) (c : ClassPlan) (b : Bool) → has_hints env c ≡ b
    → cond b (option_map Some (first_ill_flow env 0 c.flows)) (Some None) ≡ None → first_ill_flow env 0 c.flows ≡ None
no_ill_flow env c true h e = none_from_option_map Some (first_ill_flow env 0 c.flows) e
no_ill_flow env c false h e = absurd cc

-- the class and the space of a task of the job
pub record HasClass (P : Plan) (t : Task) : Type 0 where
  pub class : ClassPlan
  pub space : ClassSpace
  pub class_is : slice_get P.classes t.class ≡ Some class
  pub space_is : slice_get P.spaces t.class ≡ Some space

pub class_of : (P : Plan) (t : Task) → IsTask P t → HasClass P t
class_of P t task =
    let n = slice_get_below P.spaces t.class _ task in
    let s = slice_get_there P.spaces t.class n in
    let c = slice_get_there P.classes t.class (omega (arith, n, P.well_made.one_space_each)) in
    record { class = c.0; space = s.0; class_is = c.1; space_is = s.1 }

pub flows_are : (P : Plan) (t : Task) (c : ClassPlan) → slice_get P.classes t.class ≡ Some c → flows_of P t ≡ c.flows
flows_are P t c e = ap (λ o. option_map_or (λ (c : ClassPlan). c.flows) o []) e

-- what an active in dependence of a data flow stands for
module _ (P : Plan) (t : Task) (task_of_job : IsTask P t) (well : IsWellTask P t) (n : ℕ) (f : FlowPlan)
    (here : slice_get (flows_of P t) n ≡ Some f) (carries : is_data (Some f.kind) ≡ true) where
  is_well : is_well_flow (locals_of P t) f ≡ true
  unfolding ill_part
  is_well =
      let h = class_of P t task_of_job in
      let w : ill_part_of (locals_of P t) h.class ≡ None = (rw h.class_is at well) in
      well_flow (locals_of P t) 0 h.class.flows n f (no_ill_flow (locals_of P t) h.class
      (has_hints (locals_of P t) h.class) refl w) (rw (flows_are P t h.class h.class_is) at here)

  -- a target that holds is a source that the flow may have
  pub passes_source : (x : Target) → IsHeld (locals_of P t) f.ins x
      → is_source P.classes P.spaces P.colls (length (class_of P t task_of_job).space.defs) f x ≡ true
  passes_source x held =
      let h = class_of P t task_of_job in
      let w = P.well_made.fit t.class h.class h.space h.class_is h.space_is in
      let locals = length h.space.defs in
      let flow = member_passes (is_flow P.classes P.spaces P.colls (length P.elems) locals) h.class.flows w.flows f
      (IsIn-slice_get h.class.flows n f (rw (flows_are P t h.class h.class_is) at here)) in
      let ins = (and_parts _ _ (and_parts _ _ flow).0).1 in
      let source = is_source P.classes P.spaces P.colls locals f in
      passing locals source held.dependence held.by x (member_passes (is_dependence locals source) f.ins ins held.dependence held.among) held.target

  may_hold : (x : Target) → IsHeld (locals_of P t) f.ins x → is_in_target P.classes f.kind x ≡ true
  may_hold x held = (and_parts _ _ (passes_source x held)).1

  ins_well : are_well true (locals_of P t) f.ins ≡ true
  ins_well =
      let w = (and_parts (are_well (is_data (Some f.kind)) (locals_of P t) f.ins) (are_well false (locals_of P t) f.outs) is_well).0 in
      subst (λ b. are_well b (locals_of P t) f.ins ≡ true) carries w

  ins_first : (xs : List Target) → flow_ins (locals_of P t) f ≡ xs → held_targets true f.ins (locals_of P t) ≡ xs
  ins_first xs is = subst (λ b. held_targets b f.ins (locals_of P t) ≡ xs) carries is

  from_targets : (xs : List Target) (e : Edge) → flow_ins (locals_of P t) f ≡ xs → source_among t (locals_of P t) n xs ≡ source.Task e → IsIn e (in_edges P t)
  unfolding in_edges
  from_targets [] e is s = absurd cc
  from_targets (target.Task class flow args ∷ rest) e is s =
      let env = locals_of P t in
      let x : Target = target.Task class flow args in
      let same : edge (task class (map (single_value env) args)) flow t n ≡ e = cc in
      let h : IsHeld env f.ins x = held env f.ins x rest (ins_first (x ∷ rest) is) ins_well in
      let only = one_combination env args h.well (plain_args P f.kind class flow args carries (may_hold x h)) in
      let among : IsIn e (edges_into t env n x) = subst (λ cs. IsIn e (map (λ params. edge (task class params) flow t n) cs)) (sym only) (inl (sym same)) in
      let active : IsIn {A = ℕ × Target} (0 + n, x) (active_ins P t) = in_by_flow (flow_ins env) 0 (flows_of P t) n f x
      here (subst (IsIn x) (sym is) (inl refl)) in
      let zero_plus : 0 + n ≡ n = omega arith in
      IsIn-flat_map (λ (a : ℕ × Target). edges_into t env a.0 a.1) (active_ins P t) (n, x) e
      (subst (λ m. IsIn {A = ℕ × Target} (m, x) (active_ins P t)) zero_plus active) among
  from_targets (target.Element coll indices ∷ rest) e is s = absurd cc
  from_targets (target.New ∷ rest) e is s = absurd cc
  from_targets (target.Null ∷ rest) e is s = absurd cc

  pub source_in : (e : Edge) → data_source P t n ≡ source.Task e → IsIn e (in_edges P t)
  unfolding data_source
  source_in e s = from_targets (flow_ins (locals_of P t) f) e refl (rw here at s)

  -- if only the first target that holds counts, at most one is active
  one_target : (ds : List DepPlan) (env : List ℤ) → (held_targets true ds env ≡ []) ⊎ ((x : Target) × (held_targets true ds env ≡ x ∷ []))
  one_target [] env = inl refl
  one_target (d ∷ ds) env = step (held_target d env) (one_target ds env)
    where
      step : (o : Option Target) → (held_targets true ds env ≡ []) ⊎ ((x : Target) × (held_targets true ds env ≡ x ∷ [])) →
          (held_then true o (held_targets true ds env) ≡ []) ⊎ ((x : Target) × (held_then true o (held_targets true ds env) ≡ x ∷ []))
      step None later = later
      step (Some x) later = inr (x, refl)

  no_links : (e : Edge) → flow_ins (locals_of P t) f ≡ [] → IsIn (link_in e) (flat_map (links_to (locals_of P t) n) (flow_ins (locals_of P t) f)) → ⊥
  no_links e is h = rw is at h

  by_link : (e : Edge) (x : Target) → flow_ins (locals_of P t) f ≡ x ∷ [] → e.to ≡ t
      → IsIn (link_in e) (links_to (locals_of P t) n x) → source_at t (locals_of P t) n x ≡ source.Task e
  by_link e (target.Task class flow args) is to h =
      let env = locals_of P t in
      let x : Target = target.Task class flow args in
      let first : IsHeld env f.ins x = held env f.ins x [] (ins_first (x ∷ []) is) ins_well in
      let only = one_combination env args first.well (plain_args P f.kind class flow args carries (may_hold x first)) in
      let one_link : IsIn (link_in e) (map (link n class flow) (map (single_value env) args ∷ [])) = subst
      (λ cs. IsIn (link_in e) (map (link n class flow) cs)) only h in
      elim one_link [
        | inl same ↦
            let whole : edge (task class (map (single_value env) args)) flow t n
            ≡ e = λ k. record {
              from = (sym same k).far;
              out_flow = (sym same k).far_flow;
              to = sym to k;
              in_flow = (sym same k).near;
            } in
            ap (λ (d : Edge). source.Task d) whole
        | inr never ↦ absurd never
      ]
  by_link e (target.Element coll indices) is to h = absurd h
  by_link e target.New is to h = absurd h
  by_link e target.Null is to h = absurd h

  by_targets : (e : Edge) → e.to ≡ t → IsIn (link_in e) (flat_map (links_to (locals_of P t) n)
      (flow_ins (locals_of P t) f)) → source_among t (locals_of P t) n (flow_ins (locals_of P t) f) ≡ source.Task e
  by_targets e to h = elim (one_target f.ins (locals_of P t)) [
    | inl none ↦ absurd (no_links e (back [] none) h)
    | inr some ↦
        let is = back (some.0 ∷ []) some.1 in
        let there : IsIn (link_in e) (links_to (locals_of P t) n some.0 ++ []) = rw is at h in
        let k : IsIn (link_in e) (links_to (locals_of P t) n some.0) = elim
        (from_append (link_in e) (links_to (locals_of P t) n some.0) [] there) [ inl a ↦ a | inr b ↦ absurd b ] in
        ap (source_among t (locals_of P t) n) is ∙ by_link e some.0 is to k
  ]
    where
      back : (xs : List Target) → held_targets true f.ins (locals_of P t) ≡ xs → flow_ins (locals_of P t) f ≡ xs
      back xs e = subst (λ b. held_targets b f.ins (locals_of P t) ≡ xs) (sym carries) e

  -- if an edge goes into the flow, it is the flow's source
  pub only_source : (e : Edge) → e.in_flow ≡ n → IsIn e (in_edges P t) → data_source P t n ≡ source.Task e
  unfolding data_source
  only_source e at h =
      let p = (in_edge_is P t e).0 h in
      let env = locals_of P t in
      let q : IsSomeAnd (slice_get (flows_of P t) n) (λ g. IsIn (link_in e) (flat_map (links_to env n) (flow_targets In env g))) =
      subst (λ m. IsSomeAnd (slice_get (flows_of P t) m) (λ g. IsIn (link_in e) (flat_map (links_to env m) (flow_targets In env g)))) at p.1 in
      let r : IsIn (link_in e) (flat_map (links_to env n) (flow_targets In env f)) = rw here at q in
      rw here (by_targets e p.0 r)

  flow_among : (xs : List Target) (e : Edge) → source_among t (locals_of P t) n xs ≡ source.Task e → e.in_flow ≡ n
  flow_among [] e s = absurd cc
  flow_among (target.Task class flow args ∷ rest) e s =
      let same : edge (task class (map (single_value (locals_of P t)) args)) flow t n ≡ e = cc in
      ap (λ (d : Edge). d.in_flow) (sym same)
  flow_among (target.Element coll indices ∷ rest) e s = absurd cc
  flow_among (target.New ∷ rest) e s = absurd cc
  flow_among (target.Null ∷ rest) e s = absurd cc

  -- the source of a flow goes into it
  pub source_at_flow : (e : Edge) → data_source P t n ≡ source.Task e → e.in_flow ≡ n
  unfolding data_source
  source_at_flow e s = flow_among (flow_ins (locals_of P t) f) e (rw here at s)

  from_first : (xs : List Target) → flow_ins (locals_of P t) f ≡ xs → (s : Source)
      → source_among t (locals_of P t) n xs ≡ s → (s ≡ source.Nothing)
      ⊎ ((x : Target) × IsHeld (locals_of P t) f.ins x × (source_at t (locals_of P t) n x ≡ s))
  from_first [] is s e = inl (sym e)
  from_first (x ∷ rest) is s e = inr (x, held (locals_of P t) f.ins x rest (ins_first (x ∷ rest) is) ins_well, e)

  -- a source is that of an active target of an in dependence, or Nothing
  pub source_target : (s : Source) → data_source P t n ≡ s → (s ≡ source.Nothing)
      ⊎ ((x : Target) × IsHeld (locals_of P t) f.ins x × (source_at t (locals_of P t) n x ≡ s))
  unfolding data_source
  source_target s e = from_first (flow_ins (locals_of P t) f) refl s (rw here at e)
