-- What `certify` denotes: the certificate of a job that was run.
-- Carried by: `ptg_main` (`CommandDenotes`).
-- Tested by: `certify.txt`.
use Rattle.std.specs.Prelude.{◌≡◌, ℕ, List}
use Rattle.coll_data.specs.Data.{Data}
use Rattle.plan_core.specs.declared.plan.Plan.{Plan}
use Rattle.flow_meaning.specs.Answer.{answer}
use Rattle.flow_meaning.specs.declared.outcome.Outcome.{Outcome}
use Rattle.flow_meaning.specs.declared.outcome.Outcome.TheVariants.{Complete, Stalled}
use Rattle.chain_cert.specs.Certificates.{IsCertificate}
use Rattle.chain_cert.specs.Weights.{chain_weight, class_weights}
use Rattle.chain_cert.specs.declared.certificate.Certificate.{Certificate}
use Rattle.chain_cert.specs.declared.certificate.Certificate.TheVariants as certificate
use Rattle.ptg_top.specs.declared.verdict.Finding.{Finding}
use Rattle.ptg_top.specs.declared.verdict.Finding.TheVariants as findings
use Rattle.ptg_top.specs.Denotation as verdicts
use Rattle.ptg_top.specs.Denotation.{Denotation}

-- The finding from an answer and the certificate of its job, with these weights of classes. For a complete job it is
-- the chain with its weight, and the level of each task; for one that stalled it is the cycle. If a task trapped it is
-- the answer itself.
abbrev pub certified : List ℕ → Outcome → Certificate → Finding
certified ws (Complete count final) (certificate.Chain chain levels) =
    findings.Chain (record { tasks = count; weight = chain_weight ws chain; chain = chain; levels = levels })
certified ws (Stalled ran total rows) (certificate.Cycle cycle) =
    findings.Cycle (record { ran = ran; tasks = total; cycle = cycle })
certified ws outcome c = findings.Answer outcome

-- the verdict of `certify` on a consistent job, with the weights from its data
abbrev pub IsCertified : Plan → Data → Denotation → Type 0
IsCertified P given v =
    (c : Certificate) × IsCertificate P given (class_weights P given) c
    × (v ≡ verdicts.Ran P (certified (class_weights P given) (answer P given) c))
