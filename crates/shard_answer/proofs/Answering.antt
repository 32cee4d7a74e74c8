-- The answer of a run, from what its shards hold.
use Rattle.std.proofs.Common.{◌≡◌, ℕ, ◌≤◌, false, cond, ◌==◌, eq-eqb, List, [], ◌∷◌, map, length, slice_get, refl, ap, sym, ◌∙◌, subst, arith, Some}
use Rattle.std.proofs.lemmas.Bool.{false_from_ne_true, eqb-true}
use Rattle.std.specs.List.{IsDistinct, AllByRecursion}
use Rattle.std.specs.Map.{keys_of}
use Rattle.ptg_base.specs.Entry.{Entry}
use Rattle.ptg_base.specs.Lists.{IsIn}
use Rattle.ptg_base.specs.Task.{Task}
use Rattle.ptg_base.specs.TaskComparing.{same_task}
use Rattle.ptg_base.specs.TaskLaws.{same_task-decides}
use Rattle.ptg_base.specs.TaskOrder.{in_task_order}
use Rattle.list_lemmas.proofs.Members.{from_map}
use Rattle.list_lemmas.proofs.Truth.{by_test}
use Rattle.list_lemmas.proofs.Places.{place_of_member}
use Rattle.list_lemmas.proofs.Counts.{weigh-one, count-map}
use Rattle.list_lemmas.proofs.Tasks.{distinct_once}
use Rattle.list_lemmas.proofs.Distinct.{no_longer}
use Rattle.std.proofs.lemmas.List.{length-map}
use Rattle.plan_core.specs.declared.plan.Plan.{Plan}
use Rattle.coll_data.specs.Data.{Data}
use Rattle.coll_data.specs.WellMade.{IsWellMade}
use Rattle.plan_data.specs.Fit.{DataFit}
use Rattle.dep_iter.specs.Consistent.{IsConsistent}
use Rattle.dep_iter.specs.Tasks.{IsTask, all_tasks}
use Rattle.dep_iter.proofs.CallerLemmas.{listed}
use Rattle.dep_shard.specs.Content.{Content, Entries}
use Rattle.dep_shard.proofs.CallerLemmas.{looked_up}
use Rattle.flow_meaning.specs.declared.outcome.TrapRow.{TrapRow}
use Rattle.flow_meaning.specs.declared.outcome.WaitRow.{WaitRow}
use Rattle.flow_meaning.specs.declared.outcome.Outcome.TheVariants.{Complete, Trapped, Stalled}
use Rattle.flow_meaning.specs.Answer.{answer}
use Rattle.list_lemmas.specs.Counting.{as_number, count}
use Rattle.flow_meaning.specs.Final.{replaced_data}
use Rattle.flow_meaning.specs.Machine.{IsQuiescent, MachineState}
use Rattle.flow_meaning.specs.StateAnswer.{first_written, state_answer, state_answer_by, state_data, state_traps}
use Rattle.flow_meaning.specs.Table.{waiting_rows}
use Rattle.flow_meaning.proofs.CallerLemmas.{answer_same, reordered_quiescent, traps_same}
use Rattle.run_answer.specs.Rows.{AreOfDifferentTasks}
use Rattle.run_answer.specs.Written.{with_tiles}
use Rattle.shard_meaning.proofs.CallerLemmas.{calm_quiescent, claims_at_most}
use Rattle.shard_answer.specs.Ending.{HoldAnEnd}
use Rattle.shard_answer.specs.Parts.{HaveDistinctEntries, all_ended, all_traps, all_waits, all_written}
use Rattle.shard_answer.proofs.Gathering.{gathered}
use Rattle.shard_answer.proofs.Traps.{rows_are_tasks, rows_differ, traps_are}
use Rattle.shard_answer.proofs.Waits.{AreFound, HaveOnce, waits_are, waits_are_tasks, waits_differ}
use Rattle.shard_answer.proofs.Writes.{data_is, in_shard_order, is_reordered, sound_there}

-- distinct entries are found by look-ups, and each is there once
found_by : (es : Entries) → IsDistinct same_task (keys_of es) → AreFound es
found_by es distinct x i = let p = place_of_member es x i in looked_up es p.0 x.0 x.1 distinct p.1

none_same : (t : Task) (es : Entries) → AllByRecursion (λ u. same_task t u ≡ false) (keys_of es) → count (λ (x : Task × Entry). same_task t x.0) es ≡ 0
none_same t [] h = refl
none_same t (x ∷ xs) h = omega (arith, none_same t xs h.1, ap as_number h.0)

once_by : (es : Entries) → IsDistinct same_task (keys_of es) → HaveOnce es
unfolding IsDistinct
once_by [] distinct t = omega arith
once_by (x ∷ xs) distinct t =
    by_test (same_task t x.0)
    (λ k.
    let same : t ≡ x.0 = (same_task-decides t x.0).0 k in
    let none = subst (λ u. count (λ (y : Task × Entry). same_task u y.0) xs ≡ 0) (sym same) (none_same x.0 xs distinct.0) in
    omega (arith, none, ap as_number k))
    (λ k. omega (arith, once_by xs distinct.1 t, ap as_number k))

-- rows of different tasks of a job are at most as many as its tasks
few_rows : {A : Type 0} (key : A → Task) (P : Plan) (rows : List A) → AreOfDifferentTasks key rows
    → ((r : A) → IsIn r rows → IsTask P (key r)) → length rows ≤ length (all_tasks P)
few_rows key P rows once tasks =
    let fits = no_longer (map key rows) (all_tasks P) (distinct_once (map key rows) (λ t. omega (arith, once t, count-map (same_task t) key rows)))
    (λ t i. let x = from_map key rows t i in (listed P t).0 (subst (IsTask P) (sym x.2) (tasks x.0 x.1))) in
    omega (arith, fits, length-map rows key)

pub few_all_traps : (P : Plan) (G : Data) → IsConsistent P → (ys : List Content) → HoldAnEnd P G ys → length (all_traps ys) ≤ length (all_tasks P)
few_all_traps P G con ys h = few_rows (λ (r : TrapRow). r.task) P (all_traps ys) (rows_differ P G con ys h) (rows_are_tasks P G con ys h)

module _ (P : Plan) (G : Data) (con : IsConsistent P) (known : DataFit P G) (well : IsWellMade G) (ys : List Content) (h : HoldAnEnd P G ys) where
  abbrev state : MachineState
  state = h.moment.state

  abbrev there : MachineState
  there = in_shard_order P G con known well ys h

  quiet : IsQuiescent P G state
  quiet = calm_quiescent P G con h.moment h.sound h.calm h.finished

  quiet_there : IsQuiescent P G there
  quiet_there = reordered_quiescent state there (is_reordered P G con known well ys h) P G con h.sound quiet

  -- how many tasks have ended
  pub ended_are : all_ended ys ≡ length state.claims
  ended_are =
      gathered h.of (λ t. 1) (λ (y : Content). y.ended) ys state.claims
      (λ k y at.
      let share = h.shares k y at in
      omega (arith, share.ended, share.running, ap (λ (us : List Task). count (λ t. h.of t == k) us) h.calm.none_runs))
      (λ t i. h.placed t (h.sound.claimed_have_all t i).task)
      ∙ weigh-one state.claims

  pub ended_at_most : all_ended ys ≤ 1000000
  ended_at_most = omega (arith, ended_are, claims_at_most P G h.moment.state h.sound, con.tasks_at_most)

  module _ (distinct : HaveDistinctEntries ys) where
    found : (k : ℕ) (y : Content) → slice_get ys k ≡ Some y → AreFound y.entries × HaveOnce y.entries
    found k y at = (found_by y.entries (distinct k y at), once_by y.entries (distinct k y at))

    pub waits_apart : AreOfDifferentTasks (λ (r : WaitRow). r.task) (all_waits ys)
    waits_apart = waits_differ P G ys h found

    pub few_waits : length (all_waits ys) ≤ length (all_tasks P)
    few_waits = few_rows (λ (r : WaitRow). r.task) P (all_waits ys) waits_apart (waits_are_tasks P G ys h found)

  -- the answer if some task has trapped
  pub trapped_answer : (rows : List TrapRow) → rows ≡ in_task_order (λ (r : TrapRow). r.task) (all_traps ys) → (rows ≡ [] → ⊥) → Trapped rows ≡ answer P G
  unfolding state_answer
  trapped_answer rows are some =
      by rows some ∙ ap (state_answer_by P G state) (are ∙ traps_are P G con ys h) ∙ sym (answer_same P G con state h.sound quiet)
    where
      by : (rows : List TrapRow) → (rows ≡ [] → ⊥) → Trapped rows ≡ state_answer_by P G state rows
      by [] some = absurd (some refl)
      by (row ∷ rows) some = refl

  module _ (rows : List TrapRow) (are : rows ≡ in_task_order (λ (r : TrapRow). r.task) (all_traps ys)) (none : rows ≡ []) where
    no_traps : state_traps P G state ≡ []
    no_traps = sym (traps_are P G con ys h) ∙ sym are ∙ none

    no_traps_there : state_traps P G there ≡ []
    no_traps_there = sym (traps_same P G con there (sound_there P G con known well ys h) quiet_there) ∙ traps_same P G con state h.sound quiet ∙ no_traps

    -- the answer of a complete run
    pub complete_answer : length state.claims ≡ length (all_tasks P)
        → Complete (length (all_tasks P)) (replaced_data (λ here. first_written here (with_tiles (all_written ys))) G)
        ≡ answer P G
    unfolding state_answer
    complete_answer all =
        ap (Complete (length (all_tasks P))) (data_is P G con known well ys h)
        ∙ sym (ap (λ b. cond b (Complete (length (all_tasks P)) (state_data G there))
        (Stalled (length state.claims) (length (all_tasks P)) (waiting_rows P there)))
        (eq-eqb (length state.claims) (length (all_tasks P)) all))
        ∙ ap (state_answer_by P G there) (sym no_traps_there) ∙ sym (answer_same P G con there (sound_there P G con known well ys h) quiet_there)

    -- the answer of a stall
    pub stalled_answer : HaveDistinctEntries ys → (length state.claims ≡ length (all_tasks P) → ⊥)
        → (waits : List WaitRow) → waits ≡ in_task_order (λ (r : WaitRow). r.task) (all_waits ys)
        → Stalled (length state.claims) (length (all_tasks P)) waits ≡ answer P G
    unfolding state_answer
    stalled_answer distinct fewer waits found =
        ap (Stalled (length state.claims) (length (all_tasks P)))
        (found ∙ waits_are P G ys h (λ k y at. (
          found_by y.entries (distinct k y at),
          once_by y.entries
              (distinct k y at),
        )))
        ∙ sym (ap (λ b. cond b (Complete (length (all_tasks P)) (state_data G state))
        (Stalled (length state.claims) (length (all_tasks P)) (waiting_rows P state)))
        (false_from_ne_true (length state.claims == length (all_tasks P))
        (λ e. fewer (eqb-true (length state.claims) (length (all_tasks P)) e))))
        ∙ ap (state_answer_by P G state) (sym no_traps) ∙ sym (answer_same P G con state h.sound quiet)
