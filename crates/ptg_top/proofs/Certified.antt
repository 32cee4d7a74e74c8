-- The verdict of `certify`: what a run and its certificate make.
use Rattle.std.proofs.Common.{◌≡◌, ℕ, List, sym, ◌∙◌, ap, subst}
use Rattle.coll_data.specs.Data.{Data}
use Rattle.plan_core.specs.declared.plan.Plan.{Plan}
use Rattle.flow_meaning.specs.Answer.{answer}
use Rattle.flow_meaning.specs.declared.outcome.Outcome.{Outcome}
use Rattle.dep_table.specs.Receipts.{ReceiptView}
use Rattle.run_pool.specs.declared.settings.Settings.{Settings}
use Rattle.chain_cert.specs.Certificates.{IsCertificate}
use Rattle.chain_cert.specs.Weights.{class_weights}
use Rattle.chain_cert.specs.declared.certificate.Certificate.{Certificate}
use Rattle.ptg_top.specs.declared.verdict.Finding.{Finding}
use Rattle.ptg_top.specs.Certify.{IsCertified, certified}
use Rattle.ptg_top.specs.Denotation as verdicts
use Rattle.ptg_top.specs.Tables.{IsTableAnswer}
use Rattle.ptg_top.proofs.TableRuns.{found_of_run}

module _ (s : Settings) (P : Plan) (G : Data) (r : ReceiptView) (outcome : Outcome) (h : IsTableAnswer s P G r outcome) where
  -- the verdict on a job that was run with its certificate
  pub certified_of_run : (Q : Plan) (ws : List ℕ) (c : Certificate) (f : Finding) → Q ≡ r.plan → ws ≡ class_weights P G
      → ((D : Data) → outcome ≡ answer Q D → IsCertificate Q D ws c)
      → f ≡ certified ws outcome c → IsCertified P G (verdicts.Ran r.plan f)
  certified_of_run Q ws c f plan weights certifies is =
      let same : Q ≡ P = plan ∙ h.job.0 in
      let here : IsCertificate Q G ws c = certifies G (h.answered ∙ ap (λ (R : Plan). answer R G) (sym same)) in
      let there : IsCertificate P G (class_weights P G) c = subst (λ w. IsCertificate P G w c) weights
      (subst (λ (R : Plan). IsCertificate R G ws c) same here) in
      let found = found_of_run s P G r outcome h (λ o. certified ws o c) f is in
      (c, there, found ∙ ap (λ w. verdicts.Ran P (certified w (answer P G) c)) weights)
