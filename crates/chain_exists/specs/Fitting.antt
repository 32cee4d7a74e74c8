-- Which certificates go with which answers.
-- Carried by: law `a_certificate_fits_the_answer`.
use Rattle.flow_meaning.specs.declared.outcome.Outcome.{Outcome}
use Rattle.flow_meaning.specs.declared.outcome.Outcome.TheVariants as outcomes
use Rattle.chain_cert.specs.declared.certificate.Certificate.{Certificate}
use Rattle.chain_cert.specs.declared.certificate.Certificate.TheVariants.{Chain, Cycle, Trapped}

-- a chain goes with a complete answer, a cycle with a stall, and `Trapped` with traps
abbrev pub Fits : Outcome → Certificate → Type 0
Fits (outcomes.Complete count final) (Chain chain levels) = Unit {0}
Fits (outcomes.Stalled ran total rows) (Cycle cycle) = Unit {0}
Fits (outcomes.Trapped rows) Trapped = Unit {0}
Fits outcome certificate = ⊥
