-- The edges of a flow in one direction: their marks, one after another, and those that its first dependences stand for.
use Rattle.std.proofs.Common.{◌≡◌, ◌↔◌, ℕ, zero, suc, ℤ, Bool, true, false, List, [], ◌∷◌, ◌++◌, drop, take, map, refl, ap, sym}
use Rattle.std.proofs.Common.{◌∙◌, subst, append_assoc, ◌+◌, Option, Some, None, slice_get, Result, Ok, Err, inl, inr}
use Rattle.std.proofs.Common.{add-zero, arith}
use Rattle.std.proofs.lemmas.List.{append-nil}
use Rattle.std.specs.List.{filter_map, flat_map}
use Rattle.std.specs.Result.{IsErrAnd}
use Rattle.ptg_base.specs.Lists.{HasNoRepeats, IsIn}
use Rattle.ptg_base.specs.Task.{Task}
use Rattle.ptg_base.specs.declared.edge.Edge.{Edge}
use Rattle.ptg_base.specs.declared.edge.Item.{Item}
use Rattle.ptg_base.specs.declared.edge.Item.TheVariants as item
use Rattle.ptg_base.specs.declared.edge.WriteBack.{WriteBack}
use Rattle.term_core.specs.declared.direction.Direction.{Direction}
use Rattle.term_core.specs.declared.direction.Direction.TheVariants.{In, Out}
use Rattle.term_core.specs.Kinds.{first_only, is_data}
use Rattle.plan_core.specs.declared.flow.DepPlan.{DepPlan}
use Rattle.plan_core.specs.declared.flow.FlowPlan.{FlowPlan}
use Rattle.plan_core.specs.declared.plan.Plan.{Plan}
use Rattle.plan_core.specs.declared.target.Arg.{Arg}
use Rattle.plan_core.specs.declared.target.Target.{Target}
use Rattle.plan_core.specs.declared.target.Target.TheVariants as target
use Rattle.plan_core.specs.Flows.{dependences}
use Rattle.list_lemmas.proofs.Members.{IsIn-append_left, IsIn-append_right, from_append}
use Rattle.list_lemmas.proofs.Distinct.{HasNoRepeats-parts}
use Rattle.list_lemmas.proofs.Places.{drop_from}
use Rattle.std.proofs.lemmas.List.Elements.{filter_map-append}
use Rattle.list_lemmas.proofs.Joins.{map-flat_map, map-map, flat_map_push}
use Rattle.dep_iter.specs.declared.source.Source.{Source}
use Rattle.dep_iter.specs.Tasks.{flows_of, locals_of, task}
use Rattle.dep_iter.specs.Active.{flow_ins, held_target, held_targets, by_number}
use Rattle.dep_iter.specs.Directions.{edge_at, edges_of, near_flow}
use Rattle.dep_iter.specs.Edges.{data_source, edges_into, in_edges_before}
use Rattle.dep_iter.specs.Items.{edge_of, out_edges_before, write_of}
use Rattle.dep_iter.specs.Arguments.{combinations}
use Rattle.dep_iter.proofs.CallerLemmas.{distinct_in, distinct_out, held-none}
use Rattle.edge_match.specs.Flows.{edges_into_flow}
use Rattle.edge_match.proofs.SentItems.{edges_only}
use Rattle.edge_match.proofs.TakenEdges.{held-next_none, held-next_some}
use Rattle.edge_match.proofs.TaskFlows.{each_more, in_edges-flows, into_flow_is, items-flows, sent_flow_is}
use Rattle.edge_match.specs.declared.counted.Counted.{Counted}
use Rattle.edge_match.specs.declared.fault.MatchFault.{MatchFault}
use Rattle.edge_match.specs.declared.phase.Phase.{Phase}
use Rattle.edge_match.specs.declared.flow_at.FlowAt.{FlowAt}
use Rattle.edge_match.specs.FlowParts.{CheckedAt, FlowMarks, before_at, marks_from, plan_of, task_of, env_of}
use Rattle.edge_match.specs.Marks.{Mark, edge_marks, flow_items, held_items, item_marks, items_at, write_marks}
use Rattle.edge_match.proofs.Parts.{stop, followed, unchecked}

in_items : (t : Task) (env : List ℤ) (n : ℕ) (xs : List Target)
    → flat_map (items_at In t env n) xs ≡ map item.Edge (flat_map (edges_into t env n) xs)
in_items t env n xs = sym (map-flat_map item.Edge (edges_into t env n) xs)

-- the edges and the write-backs among items
pub edge_among : (is : List Item) (e : Edge) → IsIn e (filter_map edge_of is) ↔ IsIn (item.Edge e) is
edge_among [] e = (λ h. absurd h, λ h. absurd h)
edge_among (item.Edge d ∷ is) e = (
  λ h. elim h [ inl k ↦ inl (ap item.Edge k) | inr k ↦ inr ((edge_among is e).0 k) ],
  λ h. elim h [ inl k ↦ inl (let r : e ≡ d = cc in r) | inr k ↦ inr ((edge_among is e).1 k) ],
)
edge_among (item.Write d ∷ is) e =
    (λ h. inr ((edge_among is e).0 h), λ h. elim h [ inl k ↦ absurd cc | inr k ↦ (edge_among is e).1 k ])

pub write_among : (is : List Item) (w : WriteBack) → IsIn w (filter_map write_of is) ↔ IsIn (item.Write w) is
write_among [] w = (λ h. absurd h, λ h. absurd h)
write_among (item.Edge d ∷ is) w =
    (λ h. inr ((write_among is w).0 h), λ h. elim h [ inl k ↦ absurd cc | inr k ↦ (write_among is w).1 k ])
write_among (item.Write d ∷ is) w = (
  λ h. elim h [ inl k ↦ inl (ap item.Write k) | inr k ↦ inr ((write_among is w).0 k) ],
  λ h. elim h [ inl k ↦ inl (let r : w ≡ d = cc in r) | inr k ↦ inr ((write_among is w).1 k) ],
)

-- the edges of a flow in one direction
abbrev pub flow_edges : Direction → Plan → Task → ℕ → FlowPlan → List Edge
flow_edges d P t n f = filter_map edge_of (flow_items d P t n f)

module _ (P : Plan) (t : Task) (n : ℕ) (f : FlowPlan) where
  in_flow_edges : flow_edges In P t n f ≡ edges_into_flow t (locals_of P t) n f
  in_flow_edges = ap (filter_map edge_of) (in_items t (locals_of P t) n (flow_ins (locals_of P t) f)) ∙ edges_only _

  pub in_flow_items : flow_items In P t n f ≡ map item.Edge (flow_edges In P t n f)
  in_flow_items = in_items t (locals_of P t) n (flow_ins (locals_of P t) f) ∙ ap (map item.Edge) (sym in_flow_edges)

  pub near_is : (d : Direction) (e : Edge) → IsIn e (flow_edges d P t n f) → near_flow d e ≡ n
  near_is In e h = into_flow_is t (locals_of P t) n f e (rw in_flow_edges at h)
  near_is Out e h = sent_flow_is t (locals_of P t) n f (item.Edge e) ((edge_among (flow_items Out P t n f) e).0 h)

-- the marks of two lists of items, one after the other
pub marks-append : (d : Direction) (phase : Phase) (s : Source) (t : Task) (n : ℕ) (earlier : List Edge) (xs ys : List Item)
    → item_marks d earlier (xs ++ ys) phase s t n
    ≡ item_marks d earlier xs phase s t n ++ item_marks d (earlier ++ filter_map edge_of xs) ys phase s t n
marks-append d phase s t n earlier [] ys = ap (λ l. item_marks d l ys phase s t n) (sym (append-nil earlier))
marks-append d phase s t n earlier (item.Edge e ∷ xs) ys =
    let one = edge_marks d earlier e phase s t n in
    let rest = item_marks d (earlier ++ e ∷ []) xs phase s t n in
    let last = λ (l : List Edge). item_marks d l ys phase s t n in
    ap (λ l. one ++ l) (marks-append d phase s t n (earlier ++ e ∷ []) xs ys)
    ∙ sym (append_assoc one rest (last ((earlier ++ e ∷ []) ++ filter_map edge_of xs)))
    ∙ ap (λ l. (one ++ rest) ++ last l) (append_assoc earlier (e ∷ []) (filter_map edge_of xs))
marks-append d phase s t n earlier (item.Write w ∷ xs) ys =
    let one = write_marks w phase s t n in
    let rest = item_marks d earlier xs phase s t n in
    ap (λ l. one ++ l) (marks-append d phase s t n earlier xs ys)
    ∙ sym (append_assoc one rest (item_marks d (earlier ++ filter_map edge_of xs) ys phase s t n))

-- the edges of one dependence: those left are checked after those before them
module _ (at : FlowAt) (d : Direction) (before : List Edge) where
  abbrev pub Rest : Counted → Counted → Result (Unit {0}) MatchFault → List Edge → Type 0
  Rest s u r es = (earlier : List Edge) → ((e : Edge) → IsIn e es → IsIn e earlier ↔ IsIn e before) → HasNoRepeats es
      → CheckedAt at.phase at s u r (item_marks d earlier (map item.Edge es))

  -- the edge at hand is checked, for any earlier edges that have it if and only if an earlier dependence stands for it
  abbrev pub One : Counted → Counted → Result (Unit {0}) MatchFault → Edge → Type 0
  One s u r e = (earlier : List Edge) → IsIn e earlier ↔ IsIn e before → CheckedAt at.phase at s u r (edge_marks d earlier e)

  pub no_more : (s : Counted) → Rest s s (Ok tt) []
  no_more s earlier agree once = unchecked

  pub one_more : (s u v : Counted) (r : Result (Unit {0}) MatchFault) (e : Edge) (es : List Edge)
      → One s u (Ok tt) e → Rest u v r es → Rest s v r (e ∷ es)
  one_more s u v r e es one more earlier agree once =
      let later : (x : Edge) → IsIn x es → IsIn x (earlier ++ e ∷ []) ↔ IsIn x before = λ x h. (
        λ k. elim (from_append x earlier (e ∷ []) k) [
          | inl a ↦ (agree x (inr h)).0 a
          | inr b ↦ elim b [ inl same ↦ absurd (once.0 (subst (λ z. IsIn z es) same h)) | inr none ↦ absurd none ]
        ],
        λ k. IsIn-append_left x earlier (e ∷ []) ((agree x (inr h)).1 k),
      ) in
      followed (one earlier (agree e (inl refl))) (more (earlier ++ e ∷ []) later once.1)

-- the targets after one that holds
abbrev pub targets_after : Bool → List Target → List Target
targets_after true later = []
targets_after false later = later

held-some : (b : Bool) (d : DepPlan) (ds : List DepPlan) (env : List ℤ) (x : Target) → held_target d env ≡ Some x
    → held_targets b (d ∷ ds) env ≡ x ∷ targets_after b (held_targets b ds env)
held-some true d ds env x e = rw e refl
held-some false d ds env x e = rw e refl

-- the edges that the first dependences of a flow stand for
first_edges : (at : FlowAt) (d : Direction) (k : ℕ) → before_at d at k ≡ filter_map edge_of (held_items d (task_of at)
    (locals_of (plan_of at) (task_of at)) at.number at.flow.now.kind (take k (dependences d at.flow.now)))
unfolding in_edges_before out_edges_before
first_edges at In k =
    let env = locals_of (plan_of at) (task_of at) in
    let held = held_targets (is_data at.flow.now.kind) (take k at.flow.now.ins) env in
    rw at.here (sym (ap (filter_map edge_of) (in_items (task_of at) env at.number held) ∙ edges_only _))
first_edges at Out k = rw at.here refl

module _ (at : FlowAt) (d : Direction) where
  abbrev pub alone : Bool
  alone = first_only d at.flow.now.kind

  abbrev pub held : List DepPlan → List Target
  held ds = held_targets alone ds (env_of at)

  abbrev pub given : List Target → List Item
  given xs = flat_map (items_at d (task_of at) (env_of at) at.number) xs

  abbrev pub all : FlowMarks → List Mark
  all ms = ms at.phase (data_source (plan_of at) (task_of at) at.number) (task_of at) at.number

  before-is : (k : ℕ) → before_at d at k ≡ filter_map edge_of (given (held (take k (dependences d at.flow.now))))
  before-is k =
      let held_by = λ (env : List ℤ). held_targets alone (take k (dependences d at.flow.now)) env in
      let edges = λ (env : List ℤ). filter_map edge_of (flat_map (items_at d (task_of at) env at.number) (held_by env)) in
      first_edges at d k ∙ ap edges (sym at.task.now.are_locals)

  pub nothing_before : before_at d at 0 ≡ []
  nothing_before = before-is 0

  -- the dependence at hand
  module _ (k : ℕ) (dep : DepPlan) (this : slice_get (dependences d at.flow.now) k ≡ Some dep) where
    abbrev pub later : List DepPlan
    later = drop (suc k) (dependences d at.flow.now)

    pub skip : {s v : Counted} {r : Result (Unit {0}) MatchFault} → held_target dep (env_of at) ≡ None
        → CheckedAt at.phase at s v r (marks_from d at (suc k)) → CheckedAt at.phase at s v r (marks_from d at k)
    skip {s} {v} {r} none h =
        let edges = λ (xs : List Target). filter_map edge_of (given xs) in
        let same = before-is (suc k) ∙ ap edges (held-next_none alone (dependences d at.flow.now) k dep (env_of at) this none) ∙ sym (before-is k) in
        rw (drop_from (dependences d at.flow.now) k dep this, held-none alone dep later (env_of at) none)
        (subst (λ es. CheckedAt at.phase at s v r (item_marks d es (given (held later)))) same h)

    module _ (x : Target) (holds : held_target dep (env_of at) ≡ Some x) where
      abbrev pub here : List Item
      here = items_at d (task_of at) (env_of at) at.number x

      abbrev pub others : Bool → List Mark
      others b = all (item_marks d (before_at d at k ++ filter_map edge_of here) (given (targets_after b (held later))))

      split : all (marks_from d at k) ≡ all (item_marks d (before_at d at k) here) ++ others alone
      split =
          let marks = λ (xs : List Target). all (item_marks d (before_at d at k) (given xs)) in
          let deps = dependences d at.flow.now in
          ap (λ (ds : List DepPlan). marks (held ds)) (drop_from deps k dep this)
          ∙ ap marks (held-some alone dep later (env_of at) x holds)
          ∙ marks-append d at.phase _ (task_of at) at.number (before_at d at k) here (given (targets_after alone (held later)))

      pub stop_at : {s u v : Counted} {r : Result (Unit {0}) MatchFault} {g : MatchFault} → IsErrAnd r (λ e. e ≡ g)
          → CheckedAt at.phase at s u (Err g) (item_marks d (before_at d at k) here) → CheckedAt at.phase at s v r (marks_from d at k)
      stop_at e h = rw split (stop (others alone) e h)

      pub pass_at : {s u v : Counted} {r : Result (Unit {0}) MatchFault} → alone ≡ false
          → CheckedAt at.phase at s u (Ok tt) (item_marks d (before_at d at k) here)
          → CheckedAt at.phase at u v r (marks_from d at (suc k)) → CheckedAt at.phase at s v r (marks_from d at k)
      pass_at {s} {u} {v} {r} any h more =
          let deps = dependences d at.flow.now in
          let longer = λ (b : Bool). held_targets b (take (suc k) deps) (env_of at) ≡ held_targets b (take k deps) (env_of at) ++ x ∷ [] in
          let first = held (take k deps) in
          let same : before_at d at (suc k) ≡ before_at d at k ++ filter_map edge_of here =
          before-is (suc k) ∙ ap (λ xs. filter_map edge_of (given xs)) (subst longer (sym any) (held-next_some deps k dep (env_of at) x this holds))
          ∙ ap (filter_map edge_of) (flat_map_push (items_at d (task_of at) (env_of at) at.number) first x)
          ∙ filter_map-append edge_of (given first) here ∙ ap (λ l. l ++ filter_map edge_of here) (sym (before-is k)) in
          let rest_is : others alone ≡ all (marks_from d at (suc k)) = ap others any ∙ ap (λ es. all (item_marks d es (given (held later)))) (sym same) in
          rw split (followed h (rw rest_is more))

-- the edges of a flow with the tasks of a class that a dependence names; no two of them are the same
module _ (at : FlowAt) (class flow : ℕ) where
  abbrev pub edges_named : Direction → List (List ℤ) → List Edge
  edges_named d ps = map (λ (p : List ℤ). edge_at d (task_of at) at.number (task class p) flow) ps

  pub named_items : (args : List Arg) (d : Direction) → items_at d (task_of at) (env_of at) at.number (target.Task class flow args)
      ≡ map item.Edge (edges_named d (combinations args (env_of at)))
  named_items args In = refl
  named_items args Out = sym (map-map item.Edge (λ (p : List ℤ). edge_at Out (task_of at) at.number (task class p) flow) (combinations args (env_of at)))

  pub differ : (args : List Arg) (d : Direction) → HasNoRepeats (edges_named d (combinations args (env_of at)))
  differ args In = distinct_in (task_of at) (env_of at) at.number (target.Task class flow args)
  differ args Out = rw (named_items args Out, edges_only _) at (distinct_out (task_of at) (env_of at) at.number (target.Task class flow args))

by_number-same : {X : Type 0} (g h : ℕ → FlowPlan → List X) → ((n : ℕ) (f : FlowPlan) → g n f ≡ h n f) → (n : ℕ) (fs : List FlowPlan)
    → by_number g n fs ≡ by_number h n fs
by_number-same g h e n [] = refl
by_number-same g h e n (f ∷ fs) = ap (λ l. l ++ by_number g (suc n) fs) (e n f) ∙ ap (λ l. h n f ++ l) (by_number-same g h e (suc n) fs)

filter_map-by_number : {X Y : Type 0} (h : X → Option Y) (g : ℕ → FlowPlan → List X) (n : ℕ) (fs : List FlowPlan)
    → filter_map h (by_number g n fs) ≡ by_number (λ m f. filter_map h (g m f)) n fs
filter_map-by_number h g n [] = refl
filter_map-by_number h g n (f ∷ fs) =
    filter_map-append h (g n f) (by_number g (suc n) fs) ∙ ap (λ l. filter_map h (g n f) ++ l) (filter_map-by_number h g (suc n) fs)

module _ {X : Type 0} (g : ℕ → FlowPlan → List X) where
  pub to_by_number : (n : ℕ) (fs : List FlowPlan) (i : ℕ) (f : FlowPlan) (x : X) → slice_get fs i ≡ Some f → IsIn x (g (n + i) f)
      → IsIn x (by_number g n fs)
  to_by_number n [] i f x here h = cc
  to_by_number n (e ∷ fs) zero f x here h =
      let same : f ≡ e = cc in IsIn-append_left x (g n e) (by_number g (suc n) fs) (rw (add-zero, same) at h)
  to_by_number n (e ∷ fs) (suc i) f x here h =
      let q : n + suc i ≡ suc n + i = omega arith in
      IsIn-append_right x (g n e) (by_number g (suc n) fs) (to_by_number (suc n) fs i f x here (subst (λ m. IsIn x (g m f)) q h))

  pub part_by_number : (n : ℕ) (fs : List FlowPlan) → HasNoRepeats (by_number g n fs) → (i : ℕ) (f : FlowPlan) → slice_get fs i ≡ Some f
      → HasNoRepeats (g (n + i) f)
  part_by_number n [] once = λ i f here. cc
  part_by_number n (e ∷ fs) once =
      let p = HasNoRepeats-parts (g n e) (by_number g (suc n) fs) once in
      each_more (λ m f. HasNoRepeats (g m f)) n e fs p.0 (part_by_number (suc n) fs p.1)

module _ (P : Plan) (t : Task) where
  pub edges-numbered : (d : Direction) → edges_of d P t ≡ by_number (flow_edges d P t) 0 (flows_of P t)
  edges-numbered In = in_edges-flows P t ∙ by_number-same (edges_into_flow t (locals_of P t)) (flow_edges In P t)
      (λ n f. sym (in_flow_edges P t n f)) 0 (flows_of P t)
  edges-numbered Out = ap (filter_map edge_of) (items-flows P t) ∙ filter_map-by_number edge_of (flow_items Out P t) 0 (flows_of P t)
