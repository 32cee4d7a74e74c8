-- How many tasks are ready: with the claimed ones no more than the job has, one fewer after a claim, one more after a
-- send that makes a task ready.
use Rattle.std.proofs.Common.{◌≡◌, ◌≢◌, ◌+◌, ◌<◌, ◌≤◌, Bool, true, false, ◌&&◌, ◌==◌, not, List, [], ◌∷◌, length, refl}
use Rattle.std.proofs.Common.{ap, sym, ◌∙◌, subst, arith, eq-eqb, ne_eqb}
use Rattle.std.specs.List.{filter}
use Rattle.std.proofs.lemmas.Bool.{and_from, false_from_ne_true, false≢true}
use Rattle.ptg_base.specs.Lists.{IsIn}
use Rattle.ptg_base.specs.Task.{Task}
use Rattle.ptg_base.specs.TaskComparing.{same_task}
use Rattle.ptg_base.specs.TaskLaws.{same_task-decides}
use Rattle.ptg_base.specs.declared.edge.Edge.{Edge}
use Rattle.ptg_base.specs.declared.edge.WriteBack.{WriteBack}
use Rattle.ptg_base.specs.declared.edge.Item.TheVariants as item
use Rattle.list_lemmas.proofs.Truth.{and-false, by_test}
use Rattle.list_lemmas.proofs.Counts.{weigh-push, count-same, one_at_most, length-filter}
use Rattle.list_lemmas.proofs.Members.{IsIn-filter}
use Rattle.list_lemmas.proofs.Distinct.{count-falls, no_longer}
use Rattle.list_lemmas.proofs.Tasks.{distinct_once}
use Rattle.plan_core.specs.declared.plan.Plan.{Plan}
use Rattle.coll_data.specs.Data.{Data}
use Rattle.dep_iter.specs.Consistent.{IsConsistent}
use Rattle.dep_iter.specs.Edges.{goal}
use Rattle.dep_iter.specs.Tasks.{all_tasks}
use Rattle.dep_iter.proofs.CallerLemmas.{listed, once-all_tasks}
use Rattle.list_lemmas.specs.Counting.{as_number, count}
use Rattle.flow_meaning.specs.Machine.{MachineState, MayClaim, MaySend, Send, arrived, claim_count, state_after}
use Rattle.flow_meaning.specs.Sound.{IsSoundState}
use Rattle.flow_meaning.specs.Table.{is_ready, is_unclaimed, ready_tasks}
use Rattle.flow_meaning.proofs.CallerLemmas.{arrives, arrives_not, member_claim, writes_not}
use Rattle.shard_meaning.specs.Moment.{Moment, with_claim}
use Rattle.shard_meaning.proofs.Entries.{missing, target, target_unclaimed}

-- the ready tasks are those of the job that are ready
pub ready_count : (P : Plan) (S : MachineState) → length (ready_tasks P S) ≡ count (is_ready P S) (all_tasks P)
unfolding ready_tasks
ready_count P S = length-filter (is_ready P S) (all_tasks P)

-- no member passes two tests that exclude each other
disjoint : {A : Type 0} (p q : A → Bool) (xs : List A) → ((x : A) → q x ≡ true → p x ≡ false) → count p xs + count q xs ≤ length xs
disjoint p q [] h = omega arith
disjoint p q (x ∷ xs) h =
    by_test (q x)
    (λ k. omega (arith, ap as_number k, ap as_number (h x k), disjoint p q xs h))
    (λ k. omega (arith, ap as_number k, one_at_most (p x), disjoint p q xs h))

-- the tasks that are ready and those that were claimed are no more than there are
pub ready_at_most : (P : Plan) (G : Data) (S : MachineState) → IsSoundState P G S → length (ready_tasks P S) + length S.claims ≤ length (all_tasks P)
ready_at_most P G S sound =
    let claimed : Task → Bool = λ t. not (is_unclaimed S t) in
    let taken : (t : Task) → IsIn t S.claims → claimed t ≡ true = λ t i. ap not
    (ne_eqb (claim_count S t) 0 (λ z. absurd (omega (arith, z, member_claim S t i)))) in
    let claims : length S.claims ≤ length (filter claimed (all_tasks P)) =
    no_longer S.claims (filter claimed (all_tasks P)) (distinct_once S.claims sound.claimed_once)
    (λ t i. (IsIn-filter claimed (all_tasks P) t).1 ((listed P t).0 (sound.claimed_have_all t i).task, taken t i))
    in
    omega (
      arith,
      claims,
      length-filter claimed (all_tasks P),
      ready_count P S,
      disjoint (is_ready P S) claimed
          (all_tasks P) (λ t h. not_one (is_unclaimed S t) (arrived P S t == goal P t) h),
    )
  where
    not_one : (a b : Bool) → not a ≡ true → (a && b) ≡ false
    not_one true b h = absurd (false≢true h)
    not_one false b h = refl

is_ready-may : (P : Plan) (S : MachineState) (t : Task) → claim_count S t ≡ 0 → arrived P S t ≡ goal P t → is_ready P S t ≡ true
is_ready-may P S t free all = and_from (is_unclaimed S t) (arrived P S t == goal P t) (eq-eqb (claim_count S t) 0 free) (eq-eqb (arrived P S t) (goal P t) all)

not_ready-claimed : (P : Plan) (S : MachineState) (t : Task) → 0 < claim_count S t → is_ready P S t ≡ false
not_ready-claimed P S t some = ap (λ b. b && (arrived P S t == goal P t)) (ne_eqb (claim_count S t) 0 (λ z. absurd (omega (arith, z))))

not_ready-waits : (P : Plan) (S : MachineState) (t : Task) → arrived P S t ≢ goal P t → is_ready P S t ≡ false
not_ready-waits P S t ne = ap (λ b. is_unclaimed S t && b) (ne_eqb (arrived P S t) (goal P t) ne) ∙ and-false (is_unclaimed S t)

-- a task is as ready as before if it was claimed as often and as many edges came
same_ready : (P : Plan) (S T : MachineState) (t : Task) → claim_count T t ≡ claim_count S t → arrived P T t ≡ arrived P S t → is_ready P T t ≡ is_ready P S t
same_ready P S T t c a = λ i. (c i == 0) && (a i == goal P t)

-- a claim makes one fewer ready
pub ready-claim : (P : Plan) (R : Moment) (t : Task) → MayClaim P R.state t
    → count (is_ready P (with_claim R t).state) (all_tasks P) + 1 ≡ count (is_ready P R.state) (all_tasks P)
ready-claim P R t may =
    count-falls (is_ready P R.state) (is_ready P (with_claim R t).state) (all_tasks P) t (once-all_tasks P) ((listed P t).0 may.task)
    (is_ready-may P R.state t may.unclaimed may.all_arrived)
    (not_ready-claimed P (with_claim R t).state t (omega (
      arith,
      weigh-push (λ v. as_number (same_task t v))
          R.state.claims t,
      ap as_number ((same_task-decides t t).1 refl),
    )))
    (λ u ne. same_ready P R.state (with_claim R t).state u (omega (
      arith,
      weigh-push (λ v. as_number (same_task u v)) R.state.claims t,
      ap as_number
          (false_from_ne_true (same_task u t) (λ q. ne ((same_task-decides u t).0 q))),
    )) refl)

module _ (P : Plan) (G : Data) (con : IsConsistent P) (S : MachineState) (sound : IsSoundState P G S) where
  module _ (e : Edge) (may : MaySend P G S (item.Edge e)) where
    abbrev later : MachineState
    later = state_after P G S (Send (item.Edge e))

    one_more : arrived P later e.to ≡ arrived P S e.to + 1
    one_more = arrives P G con S sound e may

    others_ready : (u : Task) → (u ≡ e.to → ⊥) → is_ready P later u ≡ is_ready P S u
    others_ready u ne = same_ready P S later u refl (arrives_not P G con S sound e may u ne)

    free : claim_count S e.to ≡ 0
    free = target_unclaimed P G con S sound (λ t. 0) 0 e may

    before_full : arrived P S e.to + 1 ≡ goal P e.to → is_ready P S e.to ≡ false
    before_full last = not_ready-waits P S e.to (λ q. absurd (omega (arith, q, last)))

    -- a send of the last edge into a task makes it ready
    pub ready-fires : arrived P S e.to + 1 ≡ goal P e.to → count (is_ready P S) (all_tasks P) + 1 ≡ count (is_ready P later) (all_tasks P)
    ready-fires last =
        count-falls (is_ready P later) (is_ready P S) (all_tasks P) e.to (once-all_tasks P) ((listed P e.to).0 (target P G con S sound (λ t. 0) 0 e may))
        (is_ready-may P later e.to free (one_more ∙ last)) (before_full last) (λ u ne. sym (others_ready u ne))

    -- a send of another one makes none ready
    pub ready-waits : arrived P S e.to + 1 ≢ goal P e.to → count (is_ready P later) (all_tasks P) ≡ count (is_ready P S) (all_tasks P)
    ready-waits more = count-same (is_ready P S) (is_ready P later) (all_tasks P) (λ u i. by_test (same_task u e.to)
        (λ k. subst (λ v. is_ready P later v ≡ is_ready P S v) (sym ((same_task-decides u e.to).0 k))
        (not_ready-waits P later e.to (λ q. more (sym one_more ∙ q)) ∙ sym was_not))
        (λ k. others_ready u (λ q. false≢true (sym k ∙ (same_task-decides u e.to).1 q))))
      where
        was_not : is_ready P S e.to ≡ false
        was_not = not_ready-waits P S e.to (λ q. absurd (omega (arith, q, missing P G con S sound (λ t. 0) 0 e may)))

  pub ready-write : (w : WriteBack) → MaySend P G S (item.Write w)
      → count (is_ready P (state_after P G S (Send (item.Write w)))) (all_tasks P) ≡ count (is_ready P S) (all_tasks P)
  ready-write w may = count-same (is_ready P S) (is_ready P (state_after P G S (Send (item.Write w)))) (all_tasks P)
      (λ u i. same_ready P S (state_after P G S (Send (item.Write w))) u refl (writes_not P G con S sound w may u))
