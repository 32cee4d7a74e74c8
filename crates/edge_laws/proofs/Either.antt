-- Each plan is consistent or has a first fault: each check passes or does not.
use Rattle.std.proofs.Common.{◌≡◌, ℕ, ◌+◌, ◌<◌, ◌≤◌, ℤ, pos, List, [], ◌∷◌, length, refl, ap, subst, Option, Some, None}
use Rattle.std.proofs.Common.{slice_get, ◌⊎◌, inl, inr, arith, ◌↔◌, ◌≤ℤ◌, ◌<ℤ◌, Bool, true, false, nat_eq, int_eq}
use Rattle.std.proofs.Common.{IsTrue, IsSomeAnd}
use Rattle.std.proofs.lemmas.Bool.{cases_lt, false≢true}
use Rattle.ptg_base.specs.Task.{Task}
use Rattle.ptg_base.specs.TaskComparing.{same_task}
use Rattle.ptg_base.specs.TaskLaws.{same_task-decides}
use Rattle.ptg_base.specs.declared.edge.Edge.{Edge}
use Rattle.ptg_base.specs.declared.place.Place.{Place}
use Rattle.ptg_base.proofs.CallerLemmas.{same_edge, same_edge-decides}
use Rattle.term_core.specs.Directions.{opposite}
use Rattle.range_space.specs.declared.fault.SpaceFault.{SpaceFault}
use Rattle.range_space.specs.declared.fault.SpaceFault.TheVariants.{BadExpr, TooManyTasks}
use Rattle.range_space.specs.Walk as walk
use Rattle.range_space.specs.Walk.{IsWalked, NoValue, Prefix, Visit, walk_all}
use Rattle.range_space.proofs.CallerLemmas.{fault_after, fault_before, prefix_count-walk_all, sound_from_all, stops_at_once, task_count-walk_all}
use Rattle.plan_core.specs.Place.{HasPlace, IsColumn, IsRow}
use Rattle.plan_core.specs.declared.plan.Plan.{Plan}
use Rattle.plan_core.specs.declared.shape.Shape.{Shape}
use Rattle.dep_iter.specs.declared.source.Source.{Source}
use Rattle.dep_iter.specs.declared.source.Source.TheVariants as source
use Rattle.dep_iter.specs.Consistent.{IsConsistent, takes_tile}
use Rattle.dep_iter.specs.Directions.{edges_of, far_task}
use Rattle.dep_iter.specs.Tasks.{IsTask, all_tasks}
use Rattle.dep_iter.specs.Well.{ill_part}
use Rattle.dep_iter.proofs.CallerLemmas.{length-tasks_from, listed}
use Rattle.edge_match.specs.declared.fault.MatchFault.{MatchFault}
use Rattle.edge_match.specs.Faults.{fault_at, space_fault}
use Rattle.edge_match.specs.Marks.{AllPass, Before, Check, CountsIn, CountsItem, Fact, HasInput, HasOther, HasSource, HasTile}
use Rattle.edge_match.specs.Marks.{HasValues, Holds, Is, IsNewEdge, IsNewPlace, IsOfJob, IsPlace, Mark, Passes, add, marks, nothing}
use Rattle.edge_match.specs.FirstFault.{IsFirstFailure, IsFirstFault, code_of}
use Rattle.edge_match.proofs.CallerLemmas.{passes_consistent}
use Rattle.std.proofs.lemmas.Int.{by_lt_z, ints}
use Rattle.std.specs.Cmp.{unsigned_Decides, signed_Decides}
use Rattle.ptg_base.specs.Lists.{IsIn}

-- ---- things that hold or do not hold

-- it holds or does not hold
abbrev IsDecided : Type 0 → Type 0
IsDecided A = A ⊎ (A → ⊥)

by_test : {A : Type 0} (b : Bool) → IsTrue b ↔ A → IsDecided A
by_test true h = inl (h.0 refl)
by_test false h = inr (λ a. false≢true (h.1 a))

decided_like : {A B : Type 0} → (A → B) → (B → A) → IsDecided A → IsDecided B
decided_like to from (inl a) = inl (to a)
decided_like to from (inr none) = inr (λ b. none (from b))

decided_both : {A B : Type 0} → IsDecided A → IsDecided B → IsDecided (A × B)
decided_both (inl a) (inl b) = inl (a, b)
decided_both (inl a) (inr none) = inr (λ p. none p.1)
decided_both (inr none) k = inr (λ p. none p.0)

decided_if : {A B : Type 0} → IsDecided A → IsDecided B → IsDecided (A → B)
decided_if h (inl b) = inl (λ a. b)
decided_if (inl a) (inr none) = inr (λ f. none (f a))
decided_if (inr never) (inr none) = inl (λ a. absurd (never a))

decided_not : {A : Type 0} → IsDecided A → IsDecided (A → ⊥)
decided_not h = decided_if h (inr (λ none. none))

decided_some : {A : Type 0} (P : A → Type 0) → ((a : A) → IsDecided (P a)) → (o : Option A) → IsDecided (IsSomeAnd o P)
decided_some P each None = inr (λ h. h)
decided_some P each (Some a) = each a

decided_in : {A : Type 0} → ((x y : A) → IsDecided (x ≡ y)) → (x : A) (xs : List A) → IsDecided (IsIn x xs)
decided_in same x [] = inr (λ h. h)
decided_in same x (y ∷ ys) = elim (same x y) [
  | inl e ↦ inl (inl e)
  | inr differ ↦ elim (decided_in same x ys) [
    | inl h ↦ inl (inr h)
    | inr none ↦ inr (λ h. elim h [ inl e ↦ differ e | inr k ↦ none k ])
  ]
]

decided_true : (b : Bool) → IsDecided (IsTrue b)
decided_true b = by_test b (λ h. h, λ h. h)

decided_none : {A : Type 0} (o : Option A) → IsDecided (o ≡ None)
decided_none None = inl refl
decided_none (Some a) = inr (λ e. absurd cc)

decided_below : (m n : ℕ) → IsDecided (m < n)
decided_below m n = elim (cases_lt m n) [ inl h ↦ inl h | inr h ↦ inr (λ k. omega arith) ]

decided_at_most : (a b : ℤ) → IsDecided (a ≤ℤ b)
decided_at_most a b = by_lt_z b a (λ h. inr (λ k. omega (arith, ints))) (λ h. inl h)

decided_less : (a b : ℤ) → IsDecided (a <ℤ b)
decided_less a b = by_lt_z a b (λ h. inl h) (λ h. inr (λ k. omega (arith, ints)))

same_number : (a b : ℕ) → IsDecided (a ≡ b)
same_number a b = by_test (nat_eq a b) (unsigned_Decides a b)

same_integer : (a b : ℤ) → IsDecided (a ≡ b)
same_integer a b = by_test (int_eq a b) (signed_Decides a b)

-- ---- tasks, edges and places

same_or_other_task : (a b : Task) → IsDecided (a ≡ b)
same_or_other_task a b = by_test (same_task a b) (same_task-decides a b)

same_or_other_edge : (a b : Edge) → IsDecided (a ≡ b)
same_or_other_edge a b = by_test (same_edge a b) (same_edge-decides a b)

same_or_other_place : (a b : Place) → IsDecided (a ≡ b)
same_or_other_place a b =
    decided_like (λ p k. record { coll = p.0 k; i = p.1.0 k; j = p.1.1 k })
    (λ e. (ap (λ (p : Place). p.coll) e, (ap (λ (p : Place). p.i) e, ap (λ (p : Place). p.j) e)))
    (decided_both (same_number a.coll b.coll) (decided_both (same_integer a.i b.i) (same_integer a.j b.j)))

decided_row : (rows : ℕ) (i : ℤ) → IsDecided (IsRow rows i)
decided_row rows i = decided_both (decided_at_most (pos 0) i) (decided_less i (pos rows))

decided_column : (cols : Option ℕ) (j : ℤ) → IsDecided (IsColumn cols j)
decided_column None j = same_integer j (pos 0)
decided_column (Some cols) j = decided_both (decided_at_most (pos 0) j) (decided_less j (pos cols))

decided_place : (colls : List Shape) (p : Place) → IsDecided (HasPlace colls p)
decided_place colls p =
    decided_some (λ shape. IsRow shape.rows p.i × IsColumn shape.cols p.j)
    (λ shape. decided_both (decided_row shape.rows p.i) (decided_column shape.cols p.j)) (slice_get colls p.coll)

decided_task : (P : Plan) (t : Task) → IsDecided (IsTask P t)
decided_task P t = decided_like (listed P t).1 (listed P t).0 (decided_in same_or_other_task t (all_tasks P))

decided_nothing : (s : Source) → IsDecided (s ≡ source.Nothing)
decided_nothing (source.Task e) = inr (λ h. absurd cc)
decided_nothing (source.Place p) = inr (λ h. absurd cc)
decided_nothing source.New = inr (λ h. absurd cc)
decided_nothing source.Null = inr (λ h. absurd cc)
decided_nothing source.Nothing = inl refl

decided_null : (s : Source) → IsDecided (s ≡ source.Null)
decided_null (source.Task e) = inr (λ h. absurd cc)
decided_null (source.Place p) = inr (λ h. absurd cc)
decided_null source.New = inr (λ h. absurd cc)
decided_null source.Null = inl refl
decided_null source.Nothing = inr (λ h. absurd cc)

decided_source : (P : Plan) (s : Source) → IsDecided (Holds P (HasSource s))
decided_source P (source.Task e) = inl (λ p h. absurd cc)
decided_source P (source.Place q) =
    decided_like (λ h p e. let same : q ≡ p = cc in subst (HasPlace P.colls) same h) (λ h. h q refl) (decided_place P.colls q)
decided_source P source.New = inl (λ p h. absurd cc)
decided_source P source.Null = inl (λ p h. absurd cc)
decided_source P source.Nothing = inl (λ p h. absurd cc)

-- ---- checks and marks

-- each fact holds or does not, and each check passes or does not
decided_fact : (P : Plan) (f : Fact) → IsDecided (Holds P f)
decided_fact P (HasValues t) = decided_none (ill_part P t)
decided_fact P (IsPlace p) = decided_place P.colls p
decided_fact P (HasInput kind s) = decided_if (decided_true (takes_tile kind)) (decided_not (decided_nothing s))
decided_fact P (HasSource s) = decided_source P s
decided_fact P (IsOfJob t) = decided_task P t
decided_fact P (HasTile s) = decided_not (decided_null s)
decided_fact P (HasOther d e) = decided_both (decided_task P (far_task d e)) (decided_in same_or_other_edge e (edges_of (opposite d) P (far_task d e)))
decided_fact P (IsNewEdge earlier e) = decided_not (decided_in same_or_other_edge e earlier)

decided_check : (P : Plan) (b : Before) (c : Check) → IsDecided (Passes P b c)
decided_check P b (Is f) = decided_fact P f
decided_check P b (CountsIn e) = decided_below (length b.ins) 4000000
decided_check P b (CountsItem i) = decided_below (length b.items) 4000000
decided_check P b (IsNewPlace p) = decided_not (decided_in same_or_other_place p b.places)

-- all marks pass, or there is a first one that does not
pass_or_failure : (P : Plan) (b : Before) (ms : List Mark) → AllPass P b ms ⊎ ((f : MatchFault) × IsFirstFailure P b ms f)
pass_or_failure P b [] = inl tt
pass_or_failure P b (m ∷ ms) = elim (decided_check P b m.check) [
  | inl h ↦ elim (pass_or_failure P (add b m.check) ms) [
    | inl all ↦ inl (h, all)
    | inr w ↦ inr (
      w.0,
      record {
        passed = m ∷ w.1.passed;
        failed = w.1.failed;
        rest = w.1.rest;
        split = ap (λ (l : List Mark). m ∷ l) w.1.split;
        all_pass = (h, w.1.all_pass);
        fails = w.1.fails;
      },
    )
  ]
  | inr none ↦
      inr (fault_at (code_of m.check) m.task m.flow, record { passed = []; failed = m; rest = ms; split = refl; all_pass = tt; fails = (none, refl) })
]

-- ---- the walk through the spaces

-- a visit that does not stop the walk
task_walked : (t p c : ℕ) → t < 1000000 → p ≤ 16000000 → IsWalked t p (t + 1) p (walk.Task c ∷ [])
task_walked t p c h k = record {
  unstopped = record {
    all_have_values = tt;
    tasks_at_most = omega arith;
    prefixes_at_most = omega arith;
  };
  all_tasks = omega arith;
  all_prefixes = omega arith;
}

prefix_walked : (t p c : ℕ) → t ≤ 1000000 → p < 16000000 → IsWalked t p t (p + 1) (Prefix c ∷ [])
prefix_walked t p c h k = record {
  unstopped = record {
    all_have_values = tt;
    tasks_at_most = omega arith;
    prefixes_at_most = omega arith;
  };
  all_tasks = omega arith;
  all_prefixes = omega arith;
}

-- nothing stops the walk, or it has a first fault
unstopped_or_fault : (t p : ℕ) (vs : List Visit) → t ≤ 1000000 → p ≤ 16000000 → walk.IsUnstopped t p vs ⊎ ((f : SpaceFault) × walk.IsFirstFault t p vs f)
unstopped_or_fault t p [] h k = inl (record { all_have_values = tt; tasks_at_most = omega arith; prefixes_at_most = omega arith })
unstopped_or_fault t p (NoValue c ws ∷ vs) h k =
    inr (BadExpr c ws, fault_before t p (NoValue c ws ∷ []) vs (BadExpr c ws) (stops_at_once t p (NoValue c ws) (BadExpr c ws) h k refl))
unstopped_or_fault t p (walk.Task c ∷ vs) h k = elim (cases_lt t 1000000) [
  | inl l ↦ elim (unstopped_or_fault (t + 1) p vs (omega arith) k) [
    | inl u ↦
        let a = u.tasks_at_most in
        let b = u.prefixes_at_most in
        inl (record { all_have_values = u.all_have_values; tasks_at_most = omega arith; prefixes_at_most = omega arith })
    | inr w ↦ inr (w.0, fault_after t p (t + 1) p (walk.Task c ∷ []) vs w.0 (task_walked t p c l k) w.1)
  ]
  | inr l ↦ inr (
    TooManyTasks c,
    fault_before t p (walk.Task c ∷ []) vs (TooManyTasks c)
        (stops_at_once t p (walk.Task c) (TooManyTasks c) h k (omega arith, refl)),
  )
]
unstopped_or_fault t p (Prefix c ∷ vs) h k = elim (cases_lt p 16000000) [
  | inl l ↦ elim (unstopped_or_fault t (p + 1) vs h (omega arith)) [
    | inl u ↦
        let a = u.tasks_at_most in
        let b = u.prefixes_at_most in
        inl (record { all_have_values = u.all_have_values; tasks_at_most = omega arith; prefixes_at_most = omega arith })
    | inr w ↦ inr (w.0, fault_after t p t (p + 1) (Prefix c ∷ []) vs w.0 (prefix_walked t p c h l) w.1)
  ]
  | inr l ↦ inr (TooManyTasks c, fault_before t p (Prefix c ∷ []) vs (TooManyTasks c) (stops_at_once t p (Prefix c) (TooManyTasks c) h k (omega arith, refl)))
]

-- ---- plans

-- a plan with an unstopped walk whose marks pass
unstopped_is_consistent : (P : Plan) → walk.IsUnstopped 0 0 (walk_all 0 P.spaces) → AllPass P nothing (marks P) → IsConsistent P
unstopped_is_consistent P u all =
    let tasks = u.tasks_at_most in
    let prefixes = u.prefixes_at_most in
    let a = length-tasks_from 0 P.spaces in
    let b = task_count-walk_all 0 P.spaces in
    let d = prefix_count-walk_all 0 P.spaces in
    passes_consistent P all (sound_from_all 0 P.spaces u.all_have_values) (omega arith) (omega arith)

pub consistent_or_fault : (P : Plan) → IsConsistent P ⊎ ((f : MatchFault) × IsFirstFault P f)
consistent_or_fault P = elim (unstopped_or_fault 0 0 (walk_all 0 P.spaces) (omega arith) (omega arith)) [
  | inl u ↦ elim (pass_or_failure P nothing (marks P)) [
    | inl all ↦ inl (unstopped_is_consistent P u all)
    | inr w ↦ inr (w.0, inr (record { unstopped = u; first = w.1 }))
  ]
  | inr w ↦ inr (space_fault w.0, inl (w.0, w.1, refl))
]
