-- The certificate of a job goes with its answer.
use Rattle.std.proofs.Common.{◌≡◌, ℕ, ◌==◌, Bool, true, false, cond, List, [], ◌∷◌, length, refl, ap, sym, ◌∙◌, subst}
use Rattle.plan_core.specs.declared.plan.Plan.{Plan}
use Rattle.coll_data.specs.Data.{Data}
use Rattle.dep_iter.specs.Tasks.{all_tasks}
use Rattle.dep_iter.specs.Consistent.{IsConsistent}
use Rattle.flow_meaning.specs.declared.outcome.Outcome.{Outcome}
use Rattle.flow_meaning.specs.declared.outcome.Outcome.TheVariants as outcomes
use Rattle.flow_meaning.specs.declared.outcome.TrapRow.{TrapRow}
use Rattle.flow_meaning.specs.declared.outcome.WaitRow.{WaitRow}
use Rattle.flow_meaning.specs.Answer.{answer, answer_by, ran, trapped, waiting}
use Rattle.flow_meaning.specs.Final.{final_data}
use Rattle.chain_cert.specs.declared.certificate.Certificate.{Certificate}
use Rattle.chain_cert.specs.declared.certificate.Certificate.TheVariants.{Chain, Cycle, Trapped}
use Rattle.chain_cert.specs.Certificates.{IsCertificate}
use Rattle.chain_exists.specs.Completing.{IsComplete}
use Rattle.chain_exists.proofs.Completeness.{complete_exactly}
use Rattle.chain_cert.proofs.CallerLemmas.{printed_is_cycle}
use Rattle.chain_exists.specs.Fitting.{Fits}

module _ (P : Plan) (G : Data) where
  -- the answer has traps only if a task trapped
  not_calm : (rows : List TrapRow) → answer P G ≡ outcomes.Trapped rows → trapped P G ≡ [] → ⊥
  unfolding answer
  not_calm rows e calm = by (length (ran P G) == length (all_tasks P)) (sym (ap (answer_by P G) calm) ∙ e)
    where
      by : (b : Bool) → cond b (outcomes.Complete (length (all_tasks P)) (final_data P G))
          (outcomes.Stalled (length (ran P G)) (length (all_tasks P)) (waiting P G)) ≡ outcomes.Trapped rows → ⊥
      by true q = cc
      by false q = cc

  -- and it is a stall only if none did
  is_calm : (r t : ℕ) (rows : List WaitRow) → answer P G ≡ outcomes.Stalled r t rows → trapped P G ≡ []
  unfolding answer
  is_calm r t rows e = by (trapped P G) e
    where
      by : (xs : List TrapRow) → answer_by P G xs ≡ outcomes.Stalled r t rows → xs ≡ []
      by [] q = refl
      by (x ∷ xs) q = absurd cc

  module _ (ws : List ℕ) (con : IsConsistent P) where
    by_answer : (o : Outcome) → answer P G ≡ o → (c : Certificate) → IsCertificate P G ws c → Fits o c
    by_answer (outcomes.Complete count final) e (Chain chain levels) h = tt
    by_answer (outcomes.Complete count final) e (Cycle cycle) h =
        let done = (complete_exactly P con G).0 (subst IsComplete (sym e) tt) in
        absurd (done.1 cycle (printed_is_cycle P con (ran P G) cycle h.1))
    by_answer (outcomes.Complete count final) e Trapped h = absurd (h ((complete_exactly P con G).0 (subst IsComplete (sym e) tt)).0)
    by_answer (outcomes.Stalled r t rows) e (Chain chain levels) h = absurd (subst IsComplete e ((complete_exactly P con G).1 (h.0, h.1)))
    by_answer (outcomes.Stalled r t rows) e (Cycle cycle) h = tt
    by_answer (outcomes.Stalled r t rows) e Trapped h = absurd (h (is_calm r t rows e))
    by_answer (outcomes.Trapped rows) e (Chain chain levels) h = absurd (not_calm rows e h.0)
    by_answer (outcomes.Trapped rows) e (Cycle cycle) h = absurd (not_calm rows e h.0)
    by_answer (outcomes.Trapped rows) e Trapped h = tt

    pub fits : (c : Certificate) → IsCertificate P G ws c → Fits (answer P G) c
    fits c h = by_answer (answer P G) refl c h
