use Rattle.std.proofs.Common.{◌≡◌, ap, ◌∙◌}
use Rattle.plan_core.specs.declared.plan.Plan.{Plan}
use Rattle.chain_cert.specs.Weights.{class_weights}
use Rattle.ptg_top.proofs.Certified.{certified_of_run}
use Rattle.ptg_top.proofs.certifying.certify.Goals as goal

-- what the run and its certificate make
pub returns-clause-certified : goal.returns-clause-certified
returns-clause-certified g c =
    let Q = c.matched.result.now in
    let ws = c.as_slice.result.now in
    let weights : ws ≡ class_weights c.args.matched c.args.given = c.as_slice.ensures
    ∙ (c.in_ok-weights.ensures.weights ∙ ap (λ (R : Plan). class_weights R c.args.given) c.plan.ensures.same) in
    certified_of_run c.args.settings c.args.matched c.args.given c.in_ok-receipt.receipt c.in_ok-receipt.outcome c.in_ok-receipt.ensures
    Q ws c.in_ok-certificate.certificate c.certified.result c.matched.ensures weights c.in_ok-certificate.ensures.certificate
    (c.certified.ensures Q ws c.in_ok-certificate.ensures.accepted)

-- its receipt is of the job
pub returns-clause-receipt : goal.returns-clause-receipt
returns-clause-receipt g c = (c.in_ok-receipt.ensures.settings, c.in_ok-receipt.ensures.job)
