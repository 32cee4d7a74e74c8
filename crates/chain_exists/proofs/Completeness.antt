-- A job is complete if and only if it has no cycle and no task traps.
use Rattle.std.proofs.Common.{◌≡◌, ℕ, zero, suc, ◌≤◌, ◌↔◌, ◌==◌, Bool, true, false, cond, List, [], ◌∷◌, ◌++◌, length}
use Rattle.std.proofs.Common.{refl, ap, sym, ◌∙◌, subst, ◌⊎◌, inl, inr, None, is_some, arith, eqb-true, eq-eqb}
use Rattle.std.proofs.lemmas.Bool.{false≢true}
use Rattle.std.specs.Prelude.{option_map}
use Rattle.ptg_base.specs.Lists.{HasNoRepeats, IsIn}
use Rattle.ptg_base.specs.Task.{Task}
use Rattle.ptg_base.specs.declared.edge.Edge.{Edge}
use Rattle.plan_core.specs.declared.plan.Plan.{Plan}
use Rattle.plan_core.specs.declared.class.ClassPlan.{ClassPlan}
use Rattle.body_eval.specs.Meaning.{body_meaning}
use Rattle.coll_data.specs.Data.{Data}
use Rattle.list_lemmas.proofs.Members.{IsIn-map, list_all-from_members}
use Rattle.list_lemmas.proofs.Truth.{by_test}
use Rattle.list_lemmas.proofs.Counts.{all_pass, count-all, length-filter}
use Rattle.list_lemmas.proofs.Distinct.{no_longer}
use Rattle.dep_iter.specs.Tasks.{IsTask, all_tasks, locals_of}
use Rattle.dep_iter.specs.Edges.{in_edges}
use Rattle.dep_iter.specs.Consistent.{IsConsistent}
use Rattle.dep_iter.proofs.CallerLemmas.{listed}
use Rattle.flow_meaning.specs.declared.outcome.TrapRow.{TrapRow}
use Rattle.flow_meaning.specs.declared.outcome.Outcome.TheVariants.{Complete, Stalled}
use Rattle.flow_meaning.specs.Starting.{starting_tiles}
use Rattle.flow_meaning.specs.Ending.{ended_on, has_outputs}
use Rattle.flow_meaning.specs.Backward.{ended, has_all_sources, source_tile}
use Rattle.flow_meaning.specs.Answer.{answer, answer_by, ran, trapped, waiting}
use Rattle.list_lemmas.specs.Counting.{count}
use Rattle.flow_meaning.specs.Final.{final_data}
use Rattle.flow_meaning.proofs.CallerLemmas.{class_of, fixed, source_is_task}
use Rattle.chain_cert.proofs.CallerLemmas.{IsBackFrom, Repeats, all_outputs, chain_task, last_of, loop_is_cycle, repeats_or_not, source_task, turned}
use Rattle.chain_cert.specs.Chains.{HasNoCycle, IsCycle, IsSourceOf}
use Rattle.chain_exists.specs.Completing.{IsComplete}
use Rattle.chain_exists.proofs.Cycles.{never_ends}

module _ (P : Plan) (con : IsConsistent P) where
  back_left : (t : Task) (ss more : List Task) (u : Task) → IsBackFrom P con t (ss ++ u ∷ more) → IsBackFrom P con t ss × IsSourceOf P u (last_of P con t ss)
  back_left t [] more u b = (tt, b.0)
  back_left t (s ∷ ss) more u b = let p = back_left s ss more u b.1 in ((b.0, p.0), p.1)

  back_at : (t : Task) (ss : List Task) (u : Task) (more : List Task) → IsTask P t → IsBackFrom P con t (ss ++ u ∷ more) → IsTask P u × IsBackFrom P con u more
  back_at t [] u more job b = (source_task P con u t job b.0, b.1)
  back_at t (s ∷ ss) u more job b = back_at s ss u more (source_task P con s t job b.0) b.1

  -- a walk back that meets a task twice contains a cycle
  loops : (t : Task) (ss : List Task) → IsTask P t → IsBackFrom P con t ss → Repeats (t ∷ ss) → (c : List Task) × IsCycle P c
  loops t ss job b r = by r.before r.split
    where
      found : (u : Task) (more : List Task) → IsTask P u → IsBackFrom P con u (r.between ++ u ∷ more)
          → HasNoRepeats (u ∷ r.between) → (c : List Task) × IsCycle P c
      found u more there steps once =
          let p = back_left u r.between more u steps in
          (turned r.between (u ∷ []), loop_is_cycle P con u r.between there p.0 p.1 once)

      by : (before : List Task) → t ∷ ss ≡ before ++ r.twice ∷ (r.between ++ r.twice ∷ r.after) → (c : List Task) × IsCycle P c
      by [] e =
          let head : t ≡ r.twice = cc in
          let tail : ss ≡ r.between ++ r.twice ∷ r.after = cc in
          found r.twice r.after (subst (IsTask P) head job) (subst
          (λ u. IsBackFrom P con u (r.between ++ r.twice ∷ r.after)) head (subst (IsBackFrom P con t) tail b))
          r.once
      by (x ∷ xs) e =
          let tail : ss ≡ xs ++ r.twice ∷ (r.between ++ r.twice ∷ r.after) = cc in
          let p = back_at t xs r.twice (r.between ++ r.twice ∷ r.after) job (subst (IsBackFrom P con t) tail b) in
          found r.twice r.after p.0 p.1 r.once

  back_tasks : (t : Task) (ss : List Task) → IsTask P t → IsBackFrom P con t ss → (u : Task) → IsIn u (t ∷ ss) → IsTask P u
  back_tasks t [] job b u i = elim i [ inl e ↦ subst (IsTask P) (sym e) job | inr never ↦ absurd never ]
  back_tasks t (s ∷ ss) job b u i = elim i [ inl e ↦ subst (IsTask P) (sym e) job | inr later ↦ back_tasks s ss (source_task P con s t job b.0) b.1 u later ]

  -- a walk back over more tasks than the job has contains a cycle
  pub long_walk : (t : Task) (ss : List Task) → IsTask P t → IsBackFrom P con t ss → length (all_tasks P) ≤ length ss → (c : List Task) × IsCycle P c
  long_walk t ss job b long = elim (repeats_or_not (t ∷ ss)) [
    | inl once ↦ let few = no_longer (t ∷ ss) (all_tasks P) once (λ u i. (listed P u).0 (back_tasks t ss job b u i)) in absurd (omega (arith, few, long))
    | inr r ↦ loops t ss job b r
  ]

  module _ (G : Data) (calm : trapped P G ≡ []) where
    -- a task ends if its sources all have outputs
    ends_after : (t : Task) → IsTask P t → ((e : Edge) → IsIn e (in_edges P t) → has_outputs (ended P G e.from) ≡ true) → is_some (ended P G t) ≡ true
    unfolding ended_on
    ends_after t job outputs =
        let all : has_all_sources P (ended P G) t ≡ true = list_all-from_members (λ (e : Edge). has_outputs (ended P G e.from)) (in_edges P t) outputs in
        let h = class_of P t job in
        ap is_some (fixed P G con t job ∙ ap (λ b. cond b (ended_on P G (source_tile (ended P G)) t) None) all
        ∙ ap (λ o. option_map (λ (c : ClassPlan). body_meaning c.body (locals_of P t) (starting_tiles P G (source_tile (ended P G)) t)) o) h.class_is)

    -- one of the edges comes from a task that does not end, or all come from tasks that do
    some_left : (es : List Edge) → ((e : Edge) × IsIn e es × (is_some (ended P G e.from) ≡ false))
        ⊎ ((e : Edge) → IsIn e es → is_some (ended P G e.from) ≡ true)
    some_left [] = inr (λ e i. absurd i)
    some_left (d ∷ ds) =
        by_test (is_some (ended P G d.from))
        (λ k. elim (some_left ds) [
          | inl p ↦ inl (p.0, inr p.1, p.2)
          | inr all ↦ inr (λ e i. elim i [ inl q ↦ ap (λ (x : Edge). is_some (ended P G x.from)) q ∙ k | inr later ↦ all e later ])
        ])
        (λ k. inl (d, inl refl, k))

    -- a task that does not end has a source that does not
    source_left : (t : Task) → IsTask P t → is_some (ended P G t) ≡ false → (s : Task) × IsSourceOf P s t × (is_some (ended P G s) ≡ false)
    source_left t job left = elim (some_left (in_edges P t)) [
      | inl p ↦ (p.0.from, IsIn-map (λ (e : Edge). e.from) (in_edges P t) p.0 p.1, p.2)
      | inr all ↦ absurd (false≢true (sym left ∙ ends_after t job (λ e i. all_outputs P G con calm e.from (source_is_task P con t job e i) (all e i))))
    ]

    walk_of : (n : ℕ) (t : Task) → IsTask P t → is_some (ended P G t) ≡ false → (ss : List Task) × (length ss ≡ n) × IsBackFrom P con t ss
    walk_of zero t job left = ([], refl, tt)
    walk_of (suc n) t job left =
        let p = source_left t job left in
        let q = walk_of n p.0 (source_task P con p.0 t job p.1) p.2 in
        (p.0 ∷ q.0, ap suc q.1, (p.1, q.2))

    -- if a task does not end, there is a cycle
    cycle_of : (t : Task) → IsTask P t → is_some (ended P G t) ≡ false → (c : List Task) × IsCycle P c
    cycle_of t job left = let q = walk_of (length (all_tasks P)) t job left in long_walk t q.0 job q.2 (omega (arith, q.1))

    all_end : HasNoCycle P → (t : Task) → IsIn t (all_tasks P) → is_some (ended P G t) ≡ true
    all_end none t i =
        by_test (is_some (ended P G t)) (λ k. k) (λ k. let p = cycle_of t ((listed P t).1 i) k in absurd (none p.0 p.1))

  module _ (G : Data) where
    -- without a trap, the answer is complete if and only if all tasks run
    by_count : trapped P G ≡ [] → IsComplete (answer P G) ↔ (length (ran P G) ≡ length (all_tasks P))
    unfolding answer
    by_count calm = (
      λ h. by (length (ran P G) == length (all_tasks P)) refl (subst (λ l. IsComplete (answer_by P G l)) calm h),
      λ e. subst (λ l. IsComplete (answer_by P G l)) (sym calm)
          (subst (λ b. IsComplete (cond b (Complete (length (all_tasks P)) (final_data P G))
          (Stalled (length (ran P G)) (length (all_tasks P)) (waiting P G))))
          (sym (eq-eqb (length (ran P G)) (length (all_tasks P)) e)) tt),
    )
      where
        by : (b : Bool) → (length (ran P G) == length (all_tasks P)) ≡ b
            → IsComplete (cond b (Complete (length (all_tasks P)) (final_data P G))
            (Stalled (length (ran P G)) (length (all_tasks P)) (waiting P G))) → length (ran P G) ≡ length (all_tasks P)
        by true k h = eqb-true (length (ran P G)) (length (all_tasks P)) k
        by false k h = absurd h

    no_trap : IsComplete (answer P G) → trapped P G ≡ []
    unfolding answer
    no_trap h = by (trapped P G) h
      where
        by : (rows : List TrapRow) → IsComplete (answer_by P G rows) → rows ≡ []
        by [] k = refl
        by (r ∷ rows) k = absurd k

    ran_count : length (ran P G) ≡ count (λ t. is_some (ended P G t)) (all_tasks P)
    unfolding ran
    ran_count = length-filter (λ t. is_some (ended P G t)) (all_tasks P)

    pub complete_exactly : IsComplete (answer P G) ↔ ((trapped P G ≡ []) × HasNoCycle P)
    complete_exactly = (
      λ h.
          let calm = no_trap h in
          let many = (by_count calm).0 h in (
            calm,
            λ c cycle.
                let in_cycle : IsIn cycle.first c = subst (IsIn cycle.first) (sym cycle.begins.1) (inl refl) in
                let ends = all_pass (λ t. is_some (ended P G t)) (all_tasks P) (omega (arith, many, ran_count))
                cycle.first ((listed P cycle.first).0 (chain_task P c cycle.chain cycle.first in_cycle)) in
                false≢true (sym (ap is_some (never_ends P G c cycle cycle.first in_cycle)) ∙ ends),
          ),
      λ p. (by_count p.0).1 (ran_count ∙ count-all (λ t. is_some (ended P G t)) (all_tasks P) (all_end G p.0 p.1)),
    )
