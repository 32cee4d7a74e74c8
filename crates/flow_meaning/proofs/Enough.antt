-- As many rounds as a job has tasks are enough.
use Rattle.std.proofs.Common.{◌≡◌, ℕ, zero, suc, ◌+◌, ◌≤◌, Bool, true, cond, length, refl, ap, sym, ◌∙◌, subst}
use Rattle.std.proofs.Common.{add-zero, Option, Some, None, is_some, ◌⊎◌, inl, inr, arith}
use Rattle.std.proofs.lemmas.Bool.{false≢true, cases_eq}
use Rattle.std.specs.Prelude.{option_map}
use Rattle.ptg_base.specs.Lists.{IsIn}
use Rattle.ptg_base.specs.Task.{Task}
use Rattle.ptg_base.specs.declared.edge.Edge.{Edge}
use Rattle.body_eval.specs.Meaning.{body_meaning}
use Rattle.plan_core.specs.declared.class.ClassPlan.{ClassPlan}
use Rattle.plan_core.specs.declared.plan.Plan.{Plan}
use Rattle.coll_data.specs.Data.{Data}
use Rattle.dep_iter.specs.Tasks.{IsTask, all_tasks, locals_of}
use Rattle.dep_iter.specs.Edges.{in_edges}
use Rattle.dep_iter.specs.Consistent.{IsConsistent}
use Rattle.dep_iter.proofs.CallerLemmas.{listed}
use Rattle.list_lemmas.specs.Counting.{count, as_number}
use Rattle.flow_meaning.specs.Ending.{Ended, ended_on, has_outputs}
use Rattle.flow_meaning.specs.Backward.{ended, ended_after, ended_within, has_all_sources, source_tile}
use Rattle.flow_meaning.specs.Starting.{starting_tiles}
use Rattle.list_lemmas.proofs.Counts.{all_pass, count-le, one_back, one_le, weigh-tight}
use Rattle.list_lemmas.proofs.Members.{list_all-from_members, member_passes}
use Rattle.list_lemmas.proofs.Options.{some_value}
use Rattle.flow_meaning.proofs.Members.{source_is_task}
use Rattle.flow_meaning.proofs.Rounds.{ended_after-same, has_sources}
use Rattle.flow_meaning.proofs.SourceEdges.{class_of}

pub with_outputs : (o : Option Ended) → has_outputs o ≡ true → (v : Ended) × (o ≡ Some v)
with_outputs None h = absurd (false≢true h)
with_outputs (Some v) h = (v, refl)

-- two optional values are equal, if the second has what the first has, and is there only if the first is
same_answer : {A : Type 0} (a b : Option A) → ((v : A) → a ≡ Some v → b ≡ Some v) → (is_some b ≡ true → is_some a ≡ true) → b ≡ a
same_answer None None f g = refl
same_answer None (Some w) f g = absurd (false≢true (g refl))
same_answer (Some v) b f g = f v refl

module _ (P : Plan) (G : Data) (con : IsConsistent P) where
  -- what a round finds stays
  pub grows : (n : ℕ) (t : Task) → IsTask P t → (v : Ended) → ended_within P G n t ≡ Some v → ended_within P G (suc n) t ≡ Some v
  unfolding ended_within
  grows zero t task v e = absurd cc
  grows (suc n) t task v e =
      let all = has_sources P G con t task (ended_within P G n) v e in
      sym (ended_after-same P G con t task (ended_within P G n) (ended_within P G (suc n)) (λ d i.
      let o = with_outputs (ended_within P G n d.from) (member_passes (λ (d : Edge). has_outputs (ended_within P G n d.from)) (in_edges P t) all d i) in
      o.1 ∙ sym (grows n d.from (source_is_task P con t task d i) o.0 o.1))) ∙ e

  pub stays : (n more : ℕ) (t : Task) → IsTask P t → (v : Ended) → ended_within P G n t ≡ Some v → ended_within P G (n + more) t ≡ Some v
  stays n zero t task v e = subst (λ m. ended_within P G m t ≡ Some v) (sym (add-zero n)) e
  stays n (suc more) t task v e =
      let m : suc (n + more) ≡ n + suc more = omega arith in
      subst (λ k. ended_within P G k t ≡ Some v) m (grows (n + more) t task v (stays n more t task v e))

  -- the next round finds nothing new
  abbrev IsStable : ℕ → Type 0
  IsStable n = (t : Task) → IsTask P t → ended_within P G (suc n) t ≡ ended_within P G n t

  still_stable : (n : ℕ) → IsStable n → IsStable (suc n)
  unfolding ended_within
  still_stable n s t task = ended_after-same P G con t task (ended_within P G (suc n)) (ended_within P G n) (λ d i. s d.from (source_is_task P con t task d i))

  abbrev has_ended : ℕ → Task → Bool
  has_ended n t = is_some (ended_within P G n t)

  abbrev ended_count : ℕ → ℕ
  ended_count n = count (has_ended n) (all_tasks P)

  ends_too : (n : ℕ) (t : Task) → IsTask P t → has_ended n t ≡ true → has_ended (suc n) t ≡ true
  ends_too n t task e = let o = some_value (ended_within P G n t) e in ap is_some (grows n t task o.0 o.1)

  no_fewer : (n : ℕ) → ended_count n ≤ ended_count (suc n)
  no_fewer n = count-le (has_ended n) (has_ended (suc n)) (all_tasks P) (λ t i. ends_too n t ((listed P t).1 i))

  -- if as many have ended as before, nothing new was found
  no_more : (n : ℕ) → ended_count n ≡ ended_count (suc n) → IsStable n
  no_more n same t task =
      let le : (u : Task) → IsIn u (all_tasks P) → as_number (has_ended n u) ≤ as_number (has_ended (suc n) u) = λ u i.
      one_le (has_ended n u) (has_ended (suc n) u) (ends_too n u ((listed P u).1 i)) in
      let back = weigh-tight (λ u. as_number (has_ended n u)) (λ u. as_number (has_ended (suc n) u)) (all_tasks P) le (omega arith) t ((listed P t).0 task) in
      same_answer (ended_within P G n t) (ended_within P G (suc n) t) (λ v e. grows n t task v e) (one_back (has_ended n t) (has_ended (suc n) t) back)

  more_or_stable : (n : ℕ) → (n ≤ ended_count n) ⊎ IsStable n
  more_or_stable zero = inl (omega arith)
  more_or_stable (suc n) = elim (more_or_stable n) [
    | inl m ↦ elim (cases_eq (ended_count n) (ended_count (suc n))) [
      | inl same ↦ inr (still_stable n (no_more n same))
      | inr other ↦ inl (let l = no_fewer n in omega (arith, other))
    ]
    | inr s ↦ inr (still_stable n s)
  ]

  all_ended : (n : ℕ) → length (all_tasks P) ≤ ended_count n → IsStable n
  all_ended n m t task =
      let o = some_value (ended_within P G n t) (all_pass (has_ended n) (all_tasks P) m t ((listed P t).0 task)) in
      grows n t task o.0 o.1 ∙ sym o.1

  stable : IsStable (length (all_tasks P))
  stable = elim (more_or_stable (length (all_tasks P))) [ inl m ↦ all_ended (length (all_tasks P)) m | inr s ↦ s ]

  stable_from : (more : ℕ) (t : Task) → IsTask P t → ended_within P G (length (all_tasks P) + more) t ≡ ended P G t
  unfolding ended
  stable_from zero t task = ap (λ m. ended_within P G m t) (add-zero (length (all_tasks P)))
  stable_from (suc more) t task =
      let m : length (all_tasks P) + suc more ≡ suc (length (all_tasks P) + more) = omega arith in
      ap (λ k. ended_within P G k t) m ∙ at more t task ∙ stable_from more t task
    where
      at : (more : ℕ) → IsStable (length (all_tasks P) + more)
      at zero = subst IsStable (sym (add-zero (length (all_tasks P)))) stable
      at (suc more) = let m : suc (length (all_tasks P) + more) ≡ length (all_tasks P) + suc more = omega arith in subst
          IsStable m (still_stable (length (all_tasks P) + more) (at more))

  -- how a task ends is determined by how its sources end
  pub fixed : (t : Task) → IsTask P t → ended P G t ≡ ended_after P G (ended P G) t
  unfolding ended ended_within
  fixed t task = sym (stable t task)

  -- a task ends if its sources all have outputs
  pub ends_after : (t : Task) → IsTask P t → ((e : Edge) → IsIn e (in_edges P t) → has_outputs (ended P G e.from) ≡ true) → is_some (ended P G t) ≡ true
  unfolding ended_on
  ends_after t job sources =
      let all : has_all_sources P (ended P G) t ≡ true = list_all-from_members (λ (e : Edge). has_outputs (ended P G e.from)) (in_edges P t) sources in
      let h = class_of P t job in
      ap is_some (fixed t job ∙ ap (λ b. cond b (ended_on P G (source_tile (ended P G)) t) None) all
      ∙ ap (λ o. option_map (λ (c : ClassPlan). body_meaning c.body (locals_of P t) (starting_tiles P G (source_tile (ended P G)) t)) o) h.class_is)

  -- how any round finds that a task ends is how it ends
  pub found : (n : ℕ) (t : Task) → IsTask P t → (v : Ended) → ended_within P G n t ≡ Some v → ended P G t ≡ Some v
  found n t task v e =
      let m : n + length (all_tasks P) ≡ length (all_tasks P) + n = omega arith in
      sym (stable_from n t task) ∙ subst (λ k. ended_within P G k t ≡ Some v) m (stays n (length (all_tasks P)) t task v e)
