-- The tiles that come to a task by edges, counted flow by flow.
use Rattle.std.proofs.Common.{◌≡◌, ◌≢◌, ℕ, suc, ◌+◌, ◌-◌, ◌<◌, ◌==◌, nat_lt, ℤ, Bool, true, false, cond, ◌&&◌, List, []}
use Rattle.std.proofs.Common.{◌∷◌, length, refl, ap, sym, ◌∙◌, subst, add-zero, Option, Some, None, slice_get, inl, inr}
use Rattle.std.proofs.Common.{arith, eqb-true, eq-eqb, ne_eqb, lt-ltb, le-ltb}
use Rattle.std.proofs.lemmas.Bool.{cases_eq, cases_lt}
use Rattle.ptg_base.specs.Lists.{HasNoRepeats, IsIn}
use Rattle.ptg_base.specs.Task.{Task}
use Rattle.ptg_base.specs.declared.edge.Edge.{Edge}
use Rattle.list_lemmas.proofs.Counts.{weigh-same, weigh-zero, weigh-filter}
use Rattle.list_lemmas.proofs.Places.{place_of_member}
use Rattle.list_lemmas.proofs.Distinct.{HasNoRepeats-part}
use Rattle.plan_core.specs.declared.flow.FlowPlan.{FlowPlan}
use Rattle.plan_core.specs.declared.plan.Plan.{Plan}
use Rattle.plan_core.specs.declared.target.Target.{Target}
use Rattle.plan_core.specs.declared.target.Target.TheVariants as target
use Rattle.plan_core.specs.Kinds.{flow_of, is_data}
use Rattle.dep_iter.specs.declared.source.Source.{Source}
use Rattle.dep_iter.specs.declared.source.Source.TheVariants as source
use Rattle.dep_iter.specs.Active.{flow_ins}
use Rattle.dep_iter.specs.Consistent.{IsConsistent, is_data_edge}
use Rattle.dep_iter.specs.Edges.{data_source, in_edges, source_among}
use Rattle.dep_iter.specs.Tasks.{IsTask, all_tasks, flows_of, locals_of}
use Rattle.dep_iter.proofs.CallerLemmas.{listed}
use Rattle.list_lemmas.specs.Counting.{as_number, count, weigh}
use Rattle.flow_meaning.proofs.CallerLemmas.{in_edge_to, known_datatype, only_source, source_at_flow, source_in}
use Rattle.shard_meaning.specs.Reserve.{is_edge_of_type}
use Rattle.shard_meaning.proofs.CallerLemmas.{flow_is}
use Rattle.dep_table.specs.Needs.{begins_with_edge, edge_tiles, flow_tiles, flows_tiles}
use Rattle.dep_table.proofs.NeedsOne.{carried}

none_where : (b : Bool) → (b ≡ true → ⊥) → as_number b ≡ 0
none_where true h = absurd (h refl)
none_where false h = refl

-- in a list without repeats, a test that one member alone meets counts one
count-once : {A : Type 0} (test : A → Bool) (xs : List A) (x : A) → HasNoRepeats xs → IsIn x xs → test x ≡ true
    → ((y : A) → IsIn y xs → test y ≡ true → y ≡ x) → count test xs ≡ 1
count-once test [] x once i passes only = absurd i
count-once test (y ∷ ys) x once i passes only = elim i [
  | inl e ↦
      let others = weigh-zero (λ z. as_number (test z)) ys (λ z j. none_where (test z) (λ t. once.0 (subst (λ u. IsIn u ys) (only z (inr j) t ∙ e) j))) in
      omega (arith, ap as_number (ap test (sym e) ∙ passes), others)
  | inr j ↦
      let first = none_where (test y) (λ t. once.0 (subst (λ u. IsIn u ys) (sym (only y (inl refl) t)) j)) in
      omega (arith, first, count-once test ys x once.1 j passes (λ z k t. only z (inr k) t))
]

-- the types of the flows of a task are types of the plan
pub known_types : (P : Plan) (t : Task) → IsTask P t → (f : FlowPlan) → IsIn f (flows_of P t) → f.datatype < length P.elems
known_types P t job f i = let p = place_of_member (flows_of P t) f i in known_datatype P t p.0 f job p.1

-- edges into the flow n, the weight of an edge into it, and the weight of an edge into it or a later flow
abbrev into : ℕ → Edge → Bool
into n e = e.in_flow == n

abbrev at_flow : (ℕ → ℕ) → ℕ → Edge → ℕ
at_flow c n e = cond (e.in_flow == n) (c n) 0

abbrev from_flow : (ℕ → ℕ) → ℕ → Edge → ℕ
from_flow c n e = cond (nat_lt e.in_flow n) 0 (c e.in_flow)

not_later : (n m : ℕ) → m ≢ n → nat_lt m (suc n) ≡ nat_lt m n
not_later n m other = elim (cases_lt m n) [
  | inl lt ↦ lt-ltb m (suc n) (omega (arith, lt)) ∙ sym (lt-ltb m n lt)
  | inr ge ↦ le-ltb m (suc n) (omega (arith, ge, other)) ∙ sym (le-ltb m n ge)
]

one_flow : (c : ℕ → ℕ) (n m : ℕ) → cond (nat_lt m n) 0 (c m) ≡ cond (m == n) (c n) 0 + cond (nat_lt m (suc n)) 0 (c m)
one_flow c n m = elim (cases_eq m n) [
  | inl same ↦
      let before : nat_lt m n ≡ false = le-ltb m n (omega (arith, same)) in
      let here : (m == n) ≡ true = eq-eqb m n same in
      let later : nat_lt m (suc n) ≡ true = lt-ltb m (suc n) (omega (arith, same)) in
      omega (arith, ap (λ b. cond b 0 (c m)) before, ap (λ b. cond b (c n) 0) here, ap (λ b. cond b 0 (c m)) later, ap c same)
  | inr other ↦ omega (arith, ap (λ b. cond b (c n) 0) (ne_eqb m n other), ap (λ b. cond b 0 (c m)) (not_later n m other))
]

next_flow : (c : ℕ → ℕ) (n : ℕ) (xs : List Edge) → weigh (from_flow c n) xs ≡ weigh (at_flow c n) xs + weigh (from_flow c (suc n)) xs
next_flow c n [] = omega arith
next_flow c n (e ∷ xs) = omega (arith, one_flow c n e.in_flow, next_flow c n xs)

same_either : (b : Bool) (m : ℕ) → cond b m m ≡ m
same_either true m = refl
same_either false m = refl

-- one tile comes for each of the edges into a data flow of this type
weighed : (o : Bool) (type : Bool) (n : ℕ) (xs : List Edge) (some : Bool)
    → (o ≡ true → count (into n) xs ≡ as_number some) → weigh
    (λ (e : Edge). cond (e.in_flow == n) (cond o (as_number type) 0) 0) xs ≡ as_number ((o && some) && type)
weighed true true n xs some h = h refl ∙ by some
  where
    by : (b : Bool) → as_number b ≡ as_number (b && true)
    by true = refl
    by false = refl
weighed true false n xs some h = weigh-zero (λ (e : Edge). cond (e.in_flow == n) 0 0) xs (λ e i. same_either (e.in_flow == n) 0) ∙ sym (by some)
  where
    by : (b : Bool) → as_number (b && false) ≡ 0
    by true = refl
    by false = refl
weighed false type n xs some h = weigh-zero (λ (e : Edge). cond (e.in_flow == n) 0 0) xs (λ e i. same_either (e.in_flow == n) 0)

module _ (P : Plan) (con : IsConsistent P) (t : Task) (job : IsTask P t) where
  source_is : (n : ℕ) (f : FlowPlan) → slice_get (flows_of P t) n ≡ Some f → data_source P t n ≡ source_among t (locals_of P t) n (flow_ins (locals_of P t) f)
  unfolding data_source
  source_is n f here = rw here refl

  -- at most one edge goes into a data flow
  module _ (n : ℕ) (f : FlowPlan) (here : slice_get (flows_of P t) n ≡ Some f) (carries : is_data (Some f.kind) ≡ true) where
    comes_from : (e : Edge) → IsIn e (in_edges P t) → into n e ≡ true → data_source P t n ≡ source.Task e
    comes_from e i at = only_source P t job (con.connected t job).well n f here carries e (eqb-true e.in_flow n at) i

    none_comes : (s : Source) → data_source P t n ≡ s → ((e : Edge) → s ≡ source.Task e → ⊥) → count (into n) (in_edges P t) ≡ 0
    none_comes s is never = weigh-zero (λ e. as_number (into n e)) (in_edges P t) (λ e i. none_where (into n e) (λ at. never e (sym is ∙ comes_from e i at)))

    same_edge : (d e : Edge) → source.Task d ≡ source.Task e → d ≡ e
    same_edge d e q = cc

    one_comes : (d : Edge) → data_source P t n ≡ source.Task d → count (into n) (in_edges P t) ≡ 1
    one_comes d is =
        let well = (con.connected t job).well in
        let distinct = HasNoRepeats-part (in_edges P) (all_tasks P) con.no_in_edge_twice t ((listed P t).0 job) in
        count-once (into n) (in_edges P t) d distinct (source_in P t job well n f here carries d is)
        (eq-eqb d.in_flow n (source_at_flow P t job well n f here carries d is))
        (λ e i at. same_edge e d (sym (comes_from e i at) ∙ is))

    by_targets : (xs : List Target) → data_source P t n ≡ source_among t (locals_of P t) n xs → count (into n) (in_edges P t) ≡ as_number (begins_with_edge xs)
    by_targets [] is = none_comes source.Nothing is (λ e q. cc)
    by_targets (target.Task class flow args ∷ xs) is = one_comes _ is
    by_targets (target.Element coll indices ∷ xs) is = none_comes _ is (λ e q. cc)
    by_targets (target.New ∷ xs) is = none_comes source.New is (λ e q. cc)
    by_targets (target.Null ∷ xs) is = none_comes source.Null is (λ e q. cc)

    pub edges_into : count (into n) (in_edges P t) ≡ as_number (begins_with_edge (flow_ins (locals_of P t) f))
    edges_into = by_targets (flow_ins (locals_of P t) f) (source_is n f here)

  module _ (d : ℕ) where
    -- the tiles of the type that an edge into this flow carries
    abbrev tiles_at : ℕ → ℕ
    tiles_at n = carried (slice_get (flows_of P t) n) d

    by_edge : edge_tiles P (in_edges P t) d ≡ weigh (from_flow tiles_at 0) (in_edges P t)
    by_edge =
        weigh-filter (is_data_edge P) (λ (e : Edge). as_number (is_edge_of_type P d e)) (in_edges P t)
        ∙ weigh-same (from_flow tiles_at 0) (λ e. cond (is_data_edge P e) (as_number (is_edge_of_type P d e)) 0) (in_edges P t)
        (λ e i. ap (λ (o : Option FlowPlan). carried o d) (ap (λ (u : Task). flow_of P.classes u.class e.in_flow)
        (in_edge_to P t e i) ∙ sym (flow_is P t e.in_flow))
        ∙ sym (ap (λ b. cond b 0 (tiles_at e.in_flow)) (le-ltb e.in_flow 0 (omega arith))))

    -- those of flows from the nth on
    from_on : (n : ℕ) (fs : List FlowPlan) → ((i : ℕ) → slice_get (flows_of P t) (n + i) ≡ slice_get fs i)
        → weigh (from_flow tiles_at n) (in_edges P t) ≡ flows_tiles (locals_of P t) fs d
    from_on n [] at = weigh-zero (from_flow tiles_at n) (in_edges P t) (λ e i. elim (cases_lt e.in_flow n) [
      | inl lt ↦ ap (λ b. cond b 0 (tiles_at e.in_flow)) (lt-ltb e.in_flow n lt)
      | inr ge ↦
          let split : n + (e.in_flow - n) ≡ e.in_flow = omega (arith, ge) in
          let none : slice_get (flows_of P t) e.in_flow ≡ None = ap (slice_get (flows_of P t)) (sym split) ∙ at (e.in_flow - n) in
          ap (λ b. cond b 0 (tiles_at e.in_flow)) (le-ltb e.in_flow n ge) ∙ ap (λ (o : Option FlowPlan). carried o d) none
    ])
    from_on n (f ∷ fs) at =
        let here : slice_get (flows_of P t) n ≡ Some f = ap (slice_get (flows_of P t)) (sym (add-zero n)) ∙ at 0 in
        let first : weigh (at_flow tiles_at n) (in_edges P t) ≡ flow_tiles (locals_of P t) f d =
        ap (λ (o : Option FlowPlan). weigh (λ (e : Edge). cond (e.in_flow == n) (carried o d) 0) (in_edges P t)) here
        ∙ weighed (is_data (Some f.kind)) (f.datatype == d) n (in_edges P t) (begins_with_edge (flow_ins (locals_of P t) f)) (edges_into n f here) in
        let later = from_on (suc n) fs (λ i. let m : suc n + i ≡ n + suc i = omega arith in ap (slice_get (flows_of P t)) m ∙ at (suc i)) in
        omega (arith, next_flow tiles_at n (in_edges P t), first, later)

    tiles_by_flow : edge_tiles P (in_edges P t) d ≡ flows_tiles (locals_of P t) (flows_of P t) d
    tiles_by_flow = by_edge ∙ from_on 0 (flows_of P t) (λ i. let m : 0 + i ≡ i = omega arith in ap (slice_get (flows_of P t)) m)

    -- the same of the flows that a call was given
    pub tiles_are : (env : List ℤ) (fs : List FlowPlan) → env ≡ locals_of P t → fs ≡ flows_of P t → edge_tiles P (in_edges P t) d ≡ flows_tiles env fs d
    tiles_are env fs locals flows = tiles_by_flow ∙ ap (λ l. flows_tiles l (flows_of P t) d) (sym locals) ∙ ap (λ l. flows_tiles env l d) (sym flows)
