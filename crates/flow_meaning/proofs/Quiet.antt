-- A quiescent sound state has what the backward meaning says.
use Rattle.std.proofs.Common.{◌≡◌, ◌↔◌, ℕ, zero, suc, ◌<◌, ◌≤◌, Bool, true, false, ◌&&◌, cond, List, [], ◌∷◌, ◌++◌, map}
use Rattle.std.proofs.Common.{length, refl, ap, sym, ◌∙◌, subst, Option, Some, None, is_some, inl, inr, nat_lt, arith}
use Rattle.std.proofs.lemmas.Bool.{false≢true, cases_eq, eq-eqb, ne_eqb, lt-ltb}
use Rattle.std.specs.List.{filter, flat_map}
use Rattle.ptg_base.specs.Lists.{IsIn}
use Rattle.ptg_base.specs.Task.{Task}
use Rattle.ptg_base.specs.TaskOrder.{in_task_order}
use Rattle.ptg_base.specs.declared.edge.Edge.{Edge}
use Rattle.ptg_base.specs.declared.edge.Item.{Item}
use Rattle.ptg_base.specs.declared.edge.Item.TheVariants as item
use Rattle.plan_core.specs.declared.plan.Plan.{Plan}
use Rattle.coll_data.specs.Data.{Data}
use Rattle.list_lemmas.proofs.Truth.{by_test}
use Rattle.list_lemmas.proofs.Counts.{count-all, count-at_most, count-same}
use Rattle.list_lemmas.proofs.Options.{none_of, some_value}
use Rattle.list_lemmas.proofs.Members.{member_passes, IsIn-filter}
use Rattle.dep_iter.specs.Tasks.{IsTask, all_tasks}
use Rattle.dep_iter.specs.Edges.{goal, in_edges}
use Rattle.dep_iter.specs.Items.{items}
use Rattle.dep_iter.specs.Consistent.{IsConsistent}
use Rattle.dep_iter.proofs.CallerLemmas.{listed}
use Rattle.flow_meaning.specs.declared.outcome.WaitRow.{WaitRow}
use Rattle.flow_meaning.specs.Ending.{Ended, has_outputs}
use Rattle.flow_meaning.specs.Backward.{ended, ended_within}
use Rattle.flow_meaning.specs.Answer.{satisfied, ran, wait_rows, waiting}
use Rattle.flow_meaning.specs.Machine.{Claim, Send, IsQuiescent, MachineState, MayClaim, MaySend, arrived, claim_count, is_sent, sender}
use Rattle.flow_meaning.specs.Sound.{IsSoundState}
use Rattle.flow_meaning.specs.Table.{is_unclaimed, is_waiting, waiting_rows, waiting_tasks}
use Rattle.flow_meaning.proofs.Enough.{found, with_outputs}
use Rattle.flow_meaning.proofs.Events.{claim_member, ends_so, it_ends, member_claim, send_member, unsent}
use Rattle.flow_meaning.proofs.Members.{in_edge_item, source_is_task}
use Rattle.flow_meaning.proofs.Rounds.{has_sources}

module _ (P : Plan) (G : Data) (con : IsConsistent P) (S : MachineState) (sound : IsSoundState P G S) where
  -- a claimed task ends
  pub claimed_ends : (t : Task) → IsIn t S.claims → is_some (ended P G t) ≡ true
  claimed_ends t i = it_ends P G con S sound t (sound.claimed_have_all t i)

  module _ (quiet : IsQuiescent P G S) where
    -- each item of a claimed task with outputs was sent
    pub all_sent : (i : Item) → IsIn (sender i) S.claims → IsIn i (items P (sender i)) → has_outputs (ended P G (sender i)) ≡ true → is_sent S i ≡ true
    all_sent i c m o =
        by_test (is_sent S i) (λ h. h)
        (λ h.
        let so = ends_so P G con S sound (sender i) (sound.claimed_have_all (sender i) c) in
        let may : MaySend P G S i = record { unsent = unsent S i h; claimed = c; is_item = m; outputs = ap has_outputs (sym so) ∙ o } in
        absurd (quiet (Send i) may))

    -- a task that has all that it needs was claimed
    all_claimed : (t : Task) → IsTask P t → ((e : Edge) → IsIn e (in_edges P t) → is_sent S (item.Edge e) ≡ true) → IsIn t S.claims
    all_claimed t task h = elim (cases_eq (claim_count S t) 0) [
      | inl none ↦
          let may : MayClaim P S t = record { task = task; unclaimed = none; all_arrived = count-all (λ e. is_sent S (item.Edge e)) (in_edges P t) h } in
          absurd (quiet (Claim t) may)
      | inr some ↦ claim_member S t (omega (arith, some))
    ]

    -- each task that ends was claimed
    pub ended_claimed : (n : ℕ) (t : Task) → IsTask P t → (v : Ended) → ended_within P G n t ≡ Some v → IsIn t S.claims
    unfolding ended_within
    ended_claimed zero t task v e = absurd cc
    ended_claimed (suc n) t task v e =
        let all = has_sources P G con t task (ended_within P G n) v e in
        all_claimed t task (λ d i.
        let source = source_is_task P con t task d i in
        let outs = member_passes (λ (d : Edge). has_outputs (ended_within P G n d.from)) (in_edges P t) all d i in
        let o = with_outputs (ended_within P G n d.from) outs in
        let c = ended_claimed n d.from source o.0 o.1 in
        let w = found P G con n d.from source o.0 o.1 in
        all_sent (item.Edge d) c (in_edge_item P con t task d i) (ap has_outputs w ∙ (ap has_outputs (sym o.1) ∙ outs)))

    pub ends_claimed : (t : Task) → IsTask P t → is_some (ended P G t) ≡ true → IsIn t S.claims
    unfolding ended
    ends_claimed t task h = let o = some_value (ended P G t) h in ended_claimed (length (all_tasks P)) t task o.0 o.1

    -- the tasks that were claimed are those that run
    pub claims_are_ran : (t : Task) → IsIn t S.claims ↔ IsIn t (ran P G)
    unfolding ran
    claims_are_ran t = (
      λ i. (IsIn-filter (λ t. is_some (ended P G t)) (all_tasks P) t).1 ((listed P t).0 (sound.claimed_have_all t i).task, claimed_ends t i),
      λ i. let p = (IsIn-filter (λ t. is_some (ended P G t)) (all_tasks P) t).0 i in ends_claimed t ((listed P t).1 p.0) p.1,
    )

    some_outputs : (o : Option Ended) → has_outputs o ≡ true → is_some o ≡ true
    some_outputs None h = absurd (false≢true h)
    some_outputs (Some v) h = refl

    -- the items that were sent are those of the tasks that have outputs
    pub sent_are_items : (i : Item) → IsTask P (sender i) → (is_sent S i ≡ true) ↔ (IsIn i (items P (sender i)) × (has_outputs (ended P G (sender i)) ≡ true))
    sent_are_items i task = (
      λ h.
          let x = send_member S i h in
          let o = sound.sent_are_outputs x.0 x.1 in
          (subst (λ j. IsIn j (items P (sender j))) x.2 o.is_item, subst (λ j. has_outputs (ended P G (sender j)) ≡ true) x.2 o.outputs),
      λ p. all_sent i (ends_claimed (sender i) task (some_outputs (ended P G (sender i)) p.1)) p.0 p.1,
    )

    same_test : (a b : Bool) → (a ≡ true → b ≡ true) → (b ≡ true → a ≡ true) → a ≡ b
    same_test true b f g = sym (f refl)
    same_test false true f g = g refl
    same_test false false f g = refl

    -- as many edges into a task were sent as have a source with outputs
    pub arrived_is : (t : Task) → IsTask P t → arrived P S t ≡ satisfied P G t
    arrived_is t task =
        count-same (λ (e : Edge). has_outputs (ended P G e.from)) (λ e. is_sent S (item.Edge e)) (in_edges P t) (λ e i.
        let s = sent_are_items (item.Edge e) (source_is_task P con t task e i) in
        same_test (is_sent S (item.Edge e)) (has_outputs (ended P G e.from)) (λ h. (s.0 h).1) (λ o. s.1 (in_edge_item P con t task e i, o)))

    -- a task that does not run but was sent something waits, since otherwise it could be claimed
    waits : (t : Task) → IsTask P t → is_some (ended P G t) ≡ false → is_waiting P S t ≡ nat_lt 0 (arrived P S t)
    waits t task h =
        let none : claim_count S t ≡ 0 = elim (cases_eq (claim_count S t) 0) [
          | inl z ↦ z
          | inr some ↦ absurd (false≢true (sym h ∙ claimed_ends t (claim_member S t (omega (arith, some)))))
        ] in
        let most : arrived P S t ≤ goal P t = count-at_most (λ e. is_sent S (item.Edge e)) (in_edges P t) in
        let less : arrived P S t < goal P t = elim (cases_eq (arrived P S t) (goal P t)) [
          | inl all ↦
              let may : MayClaim P S t = record { task = task; unclaimed = none; all_arrived = all } in
              absurd (quiet (Claim t) may)
          | inr some ↦ omega (arith, some)
        ] in
        ap (λ b. b && (nat_lt 0 (arrived P S t) && nat_lt (arrived P S t) (goal P t))) (eq-eqb (claim_count S t) 0 none)
        ∙ ap (λ b. nat_lt 0 (arrived P S t) && b) (lt-ltb (arrived P S t) (goal P t) less)
        ∙ and_true (nat_lt 0 (arrived P S t))
      where
        and_true : (b : Bool) → (b && true) ≡ b
        and_true true = refl
        and_true false = refl

    abbrev row : Task → WaitRow
    row t = record { task = t; arrived = arrived P S t; goal = goal P t }

    rows_at : (t : Task) → IsTask P t → wait_rows P G t (ended P G t) ≡ cond (is_waiting P S t) (row t ∷ []) []
    rows_at t task =
        by_test (is_some (ended P G t))
        (λ h.
        let o = some_value (ended P G t) h in
        let some = member_claim S t (ends_claimed t task h) in
        let claimed : is_unclaimed S t ≡ false = ne_eqb (claim_count S t) 0 (λ z. absurd (omega (arith, z))) in
        ap (wait_rows P G t) o.1 ∙ sym (ap (λ b. cond (b && (nat_lt 0 (arrived P S t) && nat_lt (arrived P S t) (goal P t))) (row t ∷ []) []) claimed))
        (λ h.
        ap (wait_rows P G t) (none_of (ended P G t) h)
        ∙ ap (λ k. cond (nat_lt 0 k) (record { task = t; arrived = k; goal = goal P t } ∷ []) []) (sym (arrived_is t task))
        ∙ ap (λ b. cond b (row t ∷ []) []) (sym (waits t task h)))

    rows_same : (ts : List Task) → ((t : Task) → IsIn t ts → IsTask P t)
        → flat_map (λ t. wait_rows P G t (ended P G t)) ts ≡ map row (filter (is_waiting P S) ts)
    rows_same [] h = refl
    rows_same (t ∷ ts) h =
        ap (λ l. l ++ flat_map (λ t. wait_rows P G t (ended P G t)) ts) (rows_at t (h t (inl refl)))
        ∙ ap (λ l. cond (is_waiting P S t) (row t ∷ []) [] ++ l) (rows_same ts (λ u i. h u (inr i)))
        ∙ step (is_waiting P S t)
      where
        step : (b : Bool) → cond b (row t ∷ []) [] ++ map row (filter (is_waiting P S) ts)
            ≡ map row (cond b (t ∷ filter (is_waiting P S) ts) (filter (is_waiting P S) ts))
        step true = refl
        step false = refl

    -- the rows of the tasks that wait in the table are those of the meaning
    pub waiting_same : waiting P G ≡ waiting_rows P S
    unfolding waiting waiting_rows waiting_tasks
    waiting_same = ap (in_task_order (λ (r : WaitRow). r.task)) (rows_same (all_tasks P) (λ t i. (listed P t).1 i))
