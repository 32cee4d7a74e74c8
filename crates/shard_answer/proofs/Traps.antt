-- The trapped tasks of the shards are those of the run.
use Rattle.std.proofs.Common.{◌≡◌, ℕ, zero, suc, ◌<◌, ◌≤◌, Bool, true, false, cond, ◌&&◌, ◌==◌, eq-eqb, List, [], ◌∷◌}
use Rattle.std.proofs.Common.{slice_get, refl, ap, sym, ◌∙◌, subst, inl, inr, arith, Option, Some, None, Ok, Err}
use Rattle.std.proofs.lemmas.Bool.{eqb-true, and_parts, and_from}
use Rattle.std.specs.Prelude.{flat_map}
use Rattle.ptg_base.specs.Lists.{IsIn}
use Rattle.ptg_base.specs.Task.{Task}
use Rattle.ptg_base.specs.TaskComparing.{same_task}
use Rattle.ptg_base.specs.TaskLaws.{same_task-decides}
use Rattle.ptg_base.specs.TaskOrder.{in_task_order}
use Rattle.term_core.specs.declared.trap.Trap.{Trap}
use Rattle.term_core.specs.declared.trap.Trap.TheVariants.{Overflow, Divide, Index, Absent, Budget, Word}
use Rattle.list_lemmas.proofs.Members.{IsIn-flat_map, IsIn-map, from_flat_map, from_map}
use Rattle.list_lemmas.proofs.Truth.{by_test}
use Rattle.list_lemmas.proofs.Counts.{count-some, some_passes, weigh-append, weigh-le, weigh-member, count-map}
use Rattle.list_lemmas.proofs.Places.{slice_get_there}
use Rattle.plan_core.specs.declared.plan.Plan.{Plan}
use Rattle.coll_data.specs.Data.{Data}
use Rattle.dep_iter.specs.Consistent.{IsConsistent}
use Rattle.dep_iter.specs.Tasks.{IsTask}
use Rattle.dep_shard.specs.Content.{Content}
use Rattle.flow_meaning.specs.declared.outcome.TrapRow.{TrapRow}
use Rattle.flow_meaning.specs.Answer.{trap_rows}
use Rattle.flow_meaning.specs.Backward.{ended}
use Rattle.list_lemmas.specs.Counting.{as_number, count, weigh}
use Rattle.flow_meaning.specs.Ending.{Ended}
use Rattle.flow_meaning.specs.Machine.{MachineState, end_in}
use Rattle.flow_meaning.specs.StateAnswer.{state_traps}
use Rattle.flow_meaning.proofs.CallerLemmas.{ends_so}
use Rattle.run_answer.specs.Rows.{AreOfDifferentTasks}
use Rattle.run_answer.proofs.CallerLemmas.{one_order}
use Rattle.shard_meaning.specs.Share.{Placement, ended_weight, is_of, trap_weight}
use Rattle.shard_answer.specs.Ending.{HoldAnEnd}
use Rattle.shard_answer.specs.Parts.{all_traps, trap_row, traps_of}
use Rattle.shard_answer.proofs.Gathering.{differ, in_rows, row_of, weigh-some}

-- a number for each cause, and the cause of a number
abbrev cause_number : Trap → ℕ
cause_number Overflow = 0
cause_number Divide = 1
cause_number Index = 2
cause_number Absent = 3
cause_number Budget = 4
cause_number (Word n) = suc (suc (suc (suc (suc n))))

abbrev numbered_cause : ℕ → Trap
numbered_cause zero = Overflow
numbered_cause (suc zero) = Divide
numbered_cause (suc (suc zero)) = Index
numbered_cause (suc (suc (suc zero))) = Absent
numbered_cause (suc (suc (suc (suc zero)))) = Budget
numbered_cause (suc (suc (suc (suc (suc n))))) = Word n

numbered : (c : Trap) → numbered_cause (cause_number c) ≡ c
numbered Overflow = refl
numbered Divide = refl
numbered Index = refl
numbered Absent = refl
numbered Budget = refl
numbered (Word n) = refl

-- whether a task trapped with this cause
abbrev is_trap : Task → Trap → Task × Trap → Bool
is_trap t c x = same_task t x.0 && (cause_number c == cause_number x.1)

is_trap-self : (t : Task) (c : Trap) → is_trap t c (t, c) ≡ true
is_trap-self t c = and_from (same_task t t) (cause_number c == cause_number c) ((same_task-decides t t).1 refl) (eq-eqb (cause_number c) (cause_number c) refl)

is_trap-means : (t : Task) (c : Trap) (x : Task × Trap) → is_trap t c x ≡ true → (t ≡ x.0) × (c ≡ x.1)
is_trap-means t c x h =
    let p = and_parts (same_task t x.0) (cause_number c == cause_number x.1) h in
    ((same_task-decides t x.0).0 p.0, sym (numbered c) ∙ ap numbered_cause (eqb-true (cause_number c) (cause_number x.1) p.1) ∙ numbered x.1)

-- a task that weighs something has trapped
ended_some : (f : Task × Trap → ℕ) (t : Task) (o : Option Ended) → 0 < ended_weight f t o → (c : Trap) × (o ≡ Some (Err c)) × (0 < f (t, c))
ended_some f t None h = absurd (omega (arith, h))
ended_some f t (Some (Ok tiles)) h = absurd (omega (arith, h))
ended_some f t (Some (Err c)) h = (c, refl, h)

ended_at_most : (t u : Task) (o : Option Ended) → ended_weight (λ (x : Task × Trap). as_number (same_task t x.0)) u o ≤ as_number (same_task t u)
ended_at_most t u None = omega arith
ended_at_most t u (Some (Ok tiles)) = omega arith
ended_at_most t u (Some (Err c)) = omega arith

module _ (P : Plan) (G : Data) (of : Placement) (k : ℕ) where
  trap_some : (f : Task × Trap → ℕ) (t : Task) → 0 < trap_weight P G of k f t → (of t ≡ k) × (0 < ended_weight f t (ended P G t))
  trap_some f t h =
      by_test (is_of of k t)
      (λ e. (eqb-true (of t) k e, omega (arith, h, ap (λ b. cond b (ended_weight f t (ended P G t)) 0) e)))
      (λ e. absurd (omega (arith, h, ap (λ b. cond b (ended_weight f t (ended P G t)) 0) e)))

  trap_here : (f : Task × Trap → ℕ) (t : Task) (c : Trap) → of t ≡ k → ended P G t ≡ Some (Err c) → trap_weight P G of k f t ≡ f (t, c)
  trap_here f t c own is = ap (λ b. cond b (ended_weight f t (ended P G t)) 0) (eq-eqb (of t) k own) ∙ ap (ended_weight f t) is

  trap_at_most : (t u : Task) → trap_weight P G of k (λ (x : Task × Trap). as_number (same_task t x.0)) u ≤ as_number (same_task t u)
  trap_at_most t u =
      let f : Task × Trap → ℕ = λ x. as_number (same_task t x.0) in
      by_test (is_of of k u)
      (λ e. omega (arith, ended_at_most t u (ended P G u), ap (λ b. cond b (ended_weight f u (ended P G u)) 0) e))
      (λ e. omega (arith, ap (λ b. cond b (ended_weight f u (ended P G u)) 0) e))

module _ (P : Plan) (G : Data) (con : IsConsistent P) (ys : List Content) (h : HoldAnEnd P G ys) where
  abbrev state : MachineState
  state = h.moment.state

  -- the trapped rows of a shard weigh as much as its claimed tasks that trap
  weights : (k : ℕ) (y : Content) → slice_get ys k ≡ Some y → (f : Task × Trap → ℕ) → weigh f y.trapped ≡ weigh (trap_weight P G h.of k f) state.claims
  weights k y at f =
      let none = ap (λ (us : List Task). weigh (trap_weight P G h.of k f) us) h.calm.none_runs in
      omega (arith, (h.shares k y at).trapped f, none)

  -- a trapped row is of a claimed task of the shard that traps
  row_traps : (k : ℕ) (y : Content) → slice_get ys k ≡ Some y → (t : Task) (c : Trap) → IsIn (t, c) y.trapped
      → IsIn t state.claims × (ended P G t ≡ Some (Err c)) × (h.of t ≡ k)
  row_traps k y at t c i =
      let f : Task × Trap → ℕ = λ x. as_number (is_trap t c x) in
      let some : 0 < weigh (trap_weight P G h.of k f) state.claims = omega
      (arith, weights k y at f, count-some (is_trap t c) y.trapped (t, c) i (is_trap-self t c)) in
      let p = weigh-some (trap_weight P G h.of k f) state.claims some in
      let q = trap_some P G h.of k f p.0 p.2 in
      let e = ended_some f p.0 (ended P G p.0) q.1 in
      let m = is_trap-means t c (p.0, e.0) (passes (is_trap t c (p.0, e.0)) e.2) in (
        subst (λ u. IsIn u state.claims) (sym m.0) p.1,
        ap (ended P G) m.0 ∙ e.1 ∙ ap (λ d. Some (Err d)) (sym m.1),
        ap h.of m.0 ∙ q.0,
      )
    where
      passes : (b : Bool) → 0 < as_number b → b ≡ true
      passes true h = refl
      passes false h = absurd (omega (arith, h))

  -- a claimed task that traps has a row in its shard
  trap_has_row : (k : ℕ) (y : Content) → slice_get ys k ≡ Some y → (t : Task) (c : Trap) → IsIn t state.claims
      → ended P G t ≡ Some (Err c) → h.of t ≡ k → IsIn (t, c) y.trapped
  trap_has_row k y at t c i is own =
      let f : Task × Trap → ℕ = λ x. as_number (is_trap t c x) in
      let some : 0 < count (is_trap t c) y.trapped = omega (
        arith,
        weights k y at f,
        weigh-member
            (trap_weight P G h.of k f) state.claims t i,
        trap_here P G h.of k f t c own is,
        ap as_number
            (is_trap-self t c),
      ) in
      let p = some_passes (is_trap t c) y.trapped some in
      let m = is_trap-means t c p.0 p.2 in
      subst (λ (x : Task × Trap). IsIn x y.trapped) (λ j. (sym m.0 j, sym m.1 j)) p.1

  -- the rows of the claimed tasks that trap
  abbrev claimed_rows : List TrapRow
  claimed_rows = flat_map (λ t. trap_rows t (end_in P G state t)) state.claims

  end_known : (t : Task) → IsIn t state.claims → ended P G t ≡ end_in P G state t
  end_known t i = ends_so P G con state h.sound t (h.sound.claimed_have_all t i)

  row_in : (t : Task) (o : Option Ended) (r : TrapRow) → IsIn r (trap_rows t o) → (c : Trap) × (o ≡ Some (Err c)) × (r ≡ record { task = t; cause = c })
  row_in t None r i = absurd i
  row_in t (Some (Ok tiles)) r i = absurd i
  row_in t (Some (Err c)) r i = elim i [ inl e ↦ (c, refl, e) | inr none ↦ absurd none ]

  in_row : (t : Task) (o : Option Ended) (c : Trap) → o ≡ Some (Err c) → IsIn (trap_row (t, c)) (trap_rows t o)
  in_row t o c is = subst (λ w. IsIn (trap_row (t, c)) (trap_rows t w)) (sym is) (inl refl)

  to_claimed : (r : TrapRow) → IsIn r (all_traps ys) → IsIn r claimed_rows
  to_claimed r i =
      let p = row_of traps_of ys r i in
      let x = from_map trap_row p.1.trapped r p.3 in
      let q = row_traps p.0 p.1 p.2 x.0.0 x.0.1 x.1 in
      subst (λ s. IsIn s claimed_rows) (sym x.2)
      (IsIn-flat_map (λ t. trap_rows t (end_in P G state t)) state.claims x.0.0 (trap_row x.0) q.0
      (in_row x.0.0 (end_in P G state x.0.0) x.0.1 (sym (end_known x.0.0 q.0) ∙ q.1)))

  from_claimed : (r : TrapRow) → IsIn r claimed_rows → IsIn r (all_traps ys)
  from_claimed r i =
      let p = from_flat_map (λ t. trap_rows t (end_in P G state t)) state.claims r i in
      let q = row_in p.0 (end_in P G state p.0) r p.2 in
      let job = (h.sound.claimed_have_all p.0 p.1).task in
      let y = slice_get_there ys (h.of p.0) (h.placed p.0 job) in
      let there = trap_has_row (h.of p.0) y.0 y.1 p.0 q.0 p.1 (end_known p.0 p.1 ∙ q.1) refl in
      subst (λ s. IsIn s (all_traps ys)) (sym q.2) (in_rows traps_of ys (h.of p.0) y.0 (trap_row (p.0, q.0)) y.1
      (IsIn-map trap_row y.0.trapped (p.0, q.0) there))

  pub rows_differ : AreOfDifferentTasks (λ (r : TrapRow). r.task) (all_traps ys)
  rows_differ =
      differ (λ (r : TrapRow). r.task) traps_of h.of ys
      (λ k y at t.
      let f : Task × Trap → ℕ = λ x. as_number (same_task t x.0) in
      omega (
        arith,
        count-map (λ (r : TrapRow). same_task t r.task) trap_row y.trapped,
        weights k y at f,
        weigh-le (trap_weight P G h.of k f) (λ u. as_number (same_task t u)) state.claims (λ u i. trap_at_most P G h.of k t u),
        h.sound.claimed_once t,
      ))
      (λ k y at r i. let x = from_map trap_row y.trapped r i in ap (λ (s : TrapRow). h.of s.task) x.2 ∙ (row_traps k y at x.0.0 x.0.1 x.1).2)

  one_row : (t u : Task) (o : Option Ended) → count (λ (r : TrapRow). same_task t r.task) (trap_rows u o) ≤ as_number (same_task t u)
  one_row t u None = omega arith
  one_row t u (Some (Ok tiles)) = omega arith
  one_row t u (Some (Err c)) = omega arith

  count-claimed : (t : Task) (us : List Task) → count (λ (r : TrapRow). same_task t r.task)
      (flat_map (λ u. trap_rows u (end_in P G state u)) us) ≤ count (same_task t) us
  count-claimed t [] = omega arith
  count-claimed t (u ∷ us) =
      omega (
        arith,
        count-claimed t us,
        one_row t u (end_in P G state u),
        weigh-append
            (λ (r : TrapRow). as_number (same_task t r.task)) (trap_rows u (end_in P G state u))
            (flat_map (λ v. trap_rows v (end_in P G state v)) us),
      )

  -- the trapped tasks of the shards, in task order, are those of the state
  pub traps_are : in_task_order (λ (r : TrapRow). r.task) (all_traps ys) ≡ state_traps P G state
  unfolding state_traps
  traps_are =
      one_order (λ (r : TrapRow). r.task) (all_traps ys) claimed_rows to_claimed from_claimed rows_differ
      (λ t. omega (arith, count-claimed t state.claims, h.sound.claimed_once t))

  pub rows_are_tasks : (r : TrapRow) → IsIn r (all_traps ys) → IsTask P r.task
  rows_are_tasks r i =
      let p = row_of traps_of ys r i in
      let x = from_map trap_row p.1.trapped r p.3 in
      let q = row_traps p.0 p.1 p.2 x.0.0 x.0.1 x.1 in
      subst (λ (s : TrapRow). IsTask P s.task) (sym x.2) (h.sound.claimed_have_all x.0.0 q.0).task
