-- The printed chain and the printed cycle exist, each found from its end back.
use Rattle.std.proofs.Common.{ℕ, zero, suc, ◌+◌, ◌<◌, ◌≤◌, ◌⊎◌, inl, inr, List, [], ◌∷◌, ◌++◌, length, reverse, refl}
use Rattle.std.proofs.Common.{ap, sym, subst, ◌∙◌, Option, Some, None, MatchOption, arith, length-append}
use Rattle.std.specs.Prelude.{◌==◌}
use Rattle.std.proofs.lemmas.Bool.{false≢true, eqb-true, eq-eqb}
use Rattle.ptg_base.specs.Lists.{HasNoRepeats, IsIn}
use Rattle.ptg_base.specs.Task.{Task}
use Rattle.plan_core.specs.declared.plan.Plan.{Plan}
use Rattle.list_lemmas.proofs.Truth.{by_test}
use Rattle.list_lemmas.proofs.Distinct.{no_longer, HasNoRepeats-append}
use Rattle.list_lemmas.proofs.Tasks.{member_or_not}
use Rattle.list_lemmas.proofs.Pigeonhole.{cut_at}
use Rattle.dep_iter.specs.Tasks.{IsTask, all_tasks}
use Rattle.dep_iter.specs.Edges.{sources}
use Rattle.dep_iter.specs.Consistent.{IsConsistent}
use Rattle.dep_iter.proofs.CallerLemmas.{listed}
use Rattle.chain_cert.specs.Certificates.{AreLevels}
use Rattle.chain_cert.specs.Chains.{HasNoCycle}
use Rattle.chain_cert.specs.Finding.{HasAllLevels, IsHeaviestRow, LacksTasks, is_heaviest_source, is_left}
use Rattle.chain_cert.specs.Printed.{IsChainBack, IsPrintedChain, IsPrintedCycle, IsWalkBack}
use Rattle.chain_cert.specs.Weights.{weight}
use Rattle.chain_cert.proofs.CallerLemmas.{IsTracing, IsWalking, StepBack, last_is, no_row, step_by, step_ends, trace_end, trace_next, trace_room}
use Rattle.chain_cert.proofs.CallerLemmas.{trace_start, walk_left, walk_next, walk_start}
use Rattle.chain_exists.proofs.Rows.{heaviest_of, least_of}
use Rattle.flow_meaning.specs.Numbers.{number_for}

module _ (P : Plan) (con : IsConsistent P) (ws : List ℕ) (none : HasNoCycle P) (rows : List (Task × ℕ))
    (levels : AreLevels P ws rows) (all : HasAllLevels P ws rows) where
  step_back : (t : Task) (job : IsTask P t) → (o : Option Task) × StepBack P con ws rows all t job o
  step_back t job =
      by_test (number_for rows t == weight ws t)
      (λ k. (None, step_ends P con ws rows all t job (eqb-true (number_for rows t) (weight ws t) k)))
      (λ k.
      let least = least_of (is_heaviest_source rows (weight ws t) (number_for rows t)) (sources P t) in
      (least.0, step_by P con ws rows all t job (λ e. false≢true (sym k ∙ eq-eqb (number_for rows t) (weight ws t) e)) least.0 least.1))

  trace : (n : ℕ) (back : List Task) (o : Option Task) → IsTracing P ws back o → length (all_tasks P) ≤ length back + n → (c : List Task) × IsChainBack P ws c
  trace n back None w many = (back, trace_end P ws back w)
  trace zero back (Some t) w many = absurd (omega (arith, many, trace_room P ws none back t w))
  trace (suc n) back (Some t) w many =
      let step = step_back t w.chain.0 in
      trace n (back ++ t ∷ []) step.0 (trace_next P ws con back t step.0 w step.1) (omega (arith, many, length-append back (t ∷ [])))

  last : (o : Option (Task × ℕ)) → IsHeaviestRow rows o → (c : List Task) × IsChainBack P ws c
  last None h = trace (length (all_tasks P)) [] None (trace_start P ws None (no_row P ws rows levels h)) (omega arith)
  last (Some best) h = trace (length (all_tasks P)) [] (Some best.0) (trace_start P ws (Some best.0) (last_is P ws rows levels best h)) (omega arith)

  pub some_chain : (chain : List Task) × IsPrintedChain P ws chain
  some_chain =
      let best = heaviest_of rows in
      let back = last best.0 best.1 in
      (reverse back.0, record { back = back.0; is_back = back.1; turned = refl })

module _ (P : Plan) (con : IsConsistent P) (order : List Task) (table : List (Task × ℕ)) (lacks : LacksTasks P order table) where
  -- a task met before closes the cycle; from any other task the walk goes on
  closed : (met : List Task) (t : Task) → IsIn t met → IsWalking P order met (Some t) → (c : List Task) × IsPrintedCycle P order c
  closed met t i w =
      let p = cut_at t met i in (
        reverse (t ∷ p.1),
        record {
          before = p.0;
          twice = t;
          between = p.1;
          walk = subst (IsWalkBack P order) (ap (λ l. l ++ t ∷ []) p.2) w.walk;
          once = subst HasNoRepeats p.2 w.once;
          turned = refl;
        },
      )

  abbrev Step : List Task → Task → Type 0
  Step met t =
      ((c : List Task) × IsPrintedCycle P order c)
      ⊎ ((length met < length (all_tasks P)) × ((s : Task) × IsWalking P order (met ++ t ∷ []) (Some s)))

  step : (met : List Task) (t : Task) → IsWalking P order met (Some t) → Step met t
  step met t w = elim (member_or_not t met) [
    | inl i ↦ inl (closed met t i w)
    | inr new ↦
        let once : HasNoRepeats (met ++ t ∷ []) =
        HasNoRepeats-append met (t ∷ []) w.once ((λ i. i), tt) (λ x i j. elim j [ inl q ↦ new (subst (λ u. IsIn u met) q i) | inr never ↦ never ]) in
        let few = no_longer (met ++ t ∷ []) (all_tasks P) once (λ u i. (listed P u).0 (walk_left P con order (met ++ t ∷ []) w.walk u i).task) in
        let next = least_of (is_left table) (sources P t) in
        inr (omega (arith, few, length-append met (t ∷ [])), on once next.0 (walk_next P order table lacks con met t next.0 w.walk next.1))
  ]
    where
      on : HasNoRepeats (met ++ t ∷ []) → (o : Option Task) → MatchOption o ⊥
          (λ s. IsWalkBack P order ((met ++ t ∷ []) ++ s ∷ []))
          → (s : Task) × IsWalking P order (met ++ t ∷ []) (Some s)
      on once None h = absurd h
      on once (Some s) h = (s, record { once = once; walk = h })

  walk : (n : ℕ) (met : List Task) (t : Task) → IsWalking P order met (Some t) → length (all_tasks P) ≤ length met + n
      → (c : List Task) × IsPrintedCycle P order c
  walk zero met t w many = elim (step met t w) [ inl p ↦ p | inr q ↦ absurd (omega (arith, many, q.0)) ]
  walk (suc n) met t w many = elim (step met t w) [
    | inl p ↦ p
    | inr q ↦ walk n (met ++ t ∷ []) q.1.0 q.1.1 (omega (arith, many, length-append met (t ∷ [])))
  ]

  pub some_cycle : (cycle : List Task) × IsPrintedCycle P order cycle
  some_cycle =
      let first = least_of (is_left table) (all_tasks P) in
      start first.0 (walk_start P order table lacks first.0 first.1)
    where
      start : (o : Option Task) → MatchOption o ⊥ (λ t. IsWalkBack P order (t ∷ [])) → (cycle : List Task) × IsPrintedCycle P order cycle
      start None h = absurd h
      start (Some t) h = walk (length (all_tasks P)) [] t (record { once = tt; walk = h }) (omega arith)
