-- No task is listed twice. In a quiescent state, each task that runs was claimed once.
use Rattle.std.proofs.Common.{◌≡◌, ◌≤◌, Bool, false, cond, List, [], ◌∷◌, ◌++◌, length, refl, ap, sym, ◌∙◌, Option}
use Rattle.std.proofs.Common.{Some, None, is_some, ◌⊎◌, inl, inr, Ok, Err, arith}
use Rattle.std.proofs.lemmas.Bool.{false≢true, cases_eq}
use Rattle.std.specs.List.{filter, flat_map}
use Rattle.ptg_base.specs.Lists.{IsIn}
use Rattle.ptg_base.specs.Task.{Task}
use Rattle.ptg_base.specs.TaskOrder.{in_task_order}
use Rattle.ptg_base.specs.TaskComparing.{same_task}
use Rattle.ptg_base.specs.TaskLaws.{same_task-decides}
use Rattle.list_lemmas.proofs.Truth.{by_test}
use Rattle.list_lemmas.proofs.Counts.{count-some, same_counts, HasSameMembers-sym, count-filter}
use Rattle.list_lemmas.proofs.Tasks.{uncounted, once_each, distinct_once}
use Rattle.list_lemmas.proofs.Distinct.{no_longer}
use Rattle.plan_core.specs.declared.plan.Plan.{Plan}
use Rattle.coll_data.specs.Data.{Data}
use Rattle.dep_iter.specs.Tasks.{all_tasks}
use Rattle.dep_iter.specs.Consistent.{IsConsistent}
use Rattle.dep_iter.proofs.CallerLemmas.{listed, once-all_tasks}
use Rattle.flow_meaning.specs.declared.outcome.TrapRow.{TrapRow}
use Rattle.list_lemmas.specs.Counting.{HasSameMembers, count}
use Rattle.flow_meaning.specs.Ending.{Ended}
use Rattle.flow_meaning.specs.Backward.{ended}
use Rattle.flow_meaning.specs.Answer.{ran, trap_rows, trapped}
use Rattle.flow_meaning.specs.Machine.{IsQuiescent, MachineState, claim_count, end_in}
use Rattle.flow_meaning.specs.Sound.{IsSoundState}
use Rattle.flow_meaning.specs.StateAnswer.{state_traps}
use Rattle.flow_meaning.proofs.Events.{claim_member, ends_so, member_claim}
use Rattle.flow_meaning.proofs.Quiet.{claims_are_ran}
use Rattle.flow_meaning.proofs.TaskRows.{same_rows}

-- no task of a job is listed twice
pub tasks_once : (P : Plan) (t : Task) → count (same_task t) (all_tasks P) ≤ 1
tasks_once P t = once_each (all_tasks P) (once-all_tasks P) t

-- no more tasks are claimed than there are
pub claims_at_most : (P : Plan) (G : Data) (S : MachineState) → IsSoundState P G S → length S.claims ≤ length (all_tasks P)
claims_at_most P G S sound = no_longer S.claims (all_tasks P) (distinct_once S.claims sound.claimed_once)
    (λ t i. (listed P t).0 (sound.claimed_have_all t i).task)

flat_map-filter : {A B : Type 0} (g : A → List B) (test : A → Bool) → ((x : A) → test x ≡ false → g x ≡ [])
    → (xs : List A) → flat_map g xs ≡ flat_map g (filter test xs)
flat_map-filter g test none [] = refl
flat_map-filter g test none (x ∷ xs) =
    by_test (test x)
    (λ k. ap (λ l. g x ++ l) (flat_map-filter g test none xs) ∙ sym (ap (λ b. flat_map g (cond b (x ∷ filter test xs) (filter test xs))) k))
    (λ k. ap (λ l. l ++ flat_map g xs) (none x k) ∙ flat_map-filter g test none xs
    ∙ sym (ap (λ b. flat_map g (cond b (x ∷ filter test xs) (filter test xs))) k))

flat_map-members : {A B : Type 0} (f g : A → List B) (xs : List A) → ((x : A) → IsIn x xs → f x ≡ g x) → flat_map f xs ≡ flat_map g xs
flat_map-members f g [] h = refl
flat_map-members f g (x ∷ xs) h = ap (λ l. l ++ flat_map f xs) (h x (inl refl)) ∙ ap (λ l. g x ++ l) (flat_map-members f g xs (λ y i. h y (inr i)))

one_trap : (t : Task) (o : Option Ended) → (trap_rows t o ≡ []) ⊎ ((r : TrapRow) × (trap_rows t o ≡ r ∷ []) × (r.task ≡ t))
one_trap t None = inl refl
one_trap t (Some (Ok tiles)) = inl refl
one_trap t (Some (Err cause)) = inr (record { task = t; cause = cause }, refl, refl)

no_trap : (t : Task) (o : Option Ended) → is_some o ≡ false → trap_rows t o ≡ []
no_trap t None h = refl
no_trap t (Some v) h = absurd (false≢true (sym h))

module _ (P : Plan) (G : Data) (con : IsConsistent P) (S : MachineState) (sound : IsSoundState P G S) (quiet : IsQuiescent P G S) where
  ran_once : (t : Task) → count (same_task t) (ran P G) ≤ 1
  unfolding ran
  ran_once t = omega (arith, tasks_once P t, count-filter (same_task t) (λ u. is_some (ended P G u)) (all_tasks P))

  same_count : (t : Task) → count (same_task t) S.claims ≡ count (same_task t) (ran P G)
  same_count t =
      let are = claims_are_ran P G con S sound quiet t in
      elim (cases_eq (claim_count S t) 0) [
        | inl none ↦ none ∙ sym (uncounted t (ran P G) (λ i. let k = member_claim S t (are.1 i) in absurd (omega arith)))
        | inr some ↦
            let i = claim_member S t (omega (arith, some)) in
            omega (arith, sound.claimed_once t, member_claim S t i, ran_once t, count-some (same_task t) (ran P G) t (are.0 i) ((same_task-decides t t).1 refl))
      ]

  -- the claimed tasks are those that run, each once
  pub claims_members : HasSameMembers S.claims (ran P G)
  claims_members = (same_counts same_task same_task-decides S.claims (ran P G)).1 same_count

  -- the claimed tasks that trap are those of the meaning
  pub traps_same : trapped P G ≡ state_traps P G S
  unfolding trapped state_traps ran
  traps_same =
      let key = λ (r : TrapRow). r.task in
      let rows : Task → List TrapRow = λ t. trap_rows t (ended P G t) in
      ap (in_task_order key) (flat_map-filter rows (λ t. is_some (ended P G t)) (λ t h. no_trap t (ended P G t) h) (all_tasks P))
      ∙ same_rows key rows (λ t. one_trap t (ended P G t)) (ran P G) S.claims (HasSameMembers-sym S.claims (ran P G) claims_members) sound.claimed_once
      ∙ ap (in_task_order key) (flat_map-members rows (λ t. trap_rows t (end_in P G S t)) S.claims
      (λ t i. ap (trap_rows t) (ends_so P G con S sound t (sound.claimed_have_all t i))))
