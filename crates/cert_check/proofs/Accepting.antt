-- The checkers accept every certificate.
use Rattle.std.proofs.Common.{ℕ, List}
use Rattle.plan_core.specs.declared.plan.Plan.{Plan}
use Rattle.coll_data.specs.Data.{Data}
use Rattle.dep_iter.specs.Consistent.{IsConsistent}
use Rattle.flow_meaning.specs.Answer.{ran}
use Rattle.chain_cert.specs.declared.certificate.Certificate.{Certificate}
use Rattle.chain_cert.specs.declared.certificate.Certificate.TheVariants.{Chain, Cycle, Trapped}
use Rattle.chain_cert.specs.Certificates.{IsCertificate}
use Rattle.chain_cert.specs.Finding.{IsAccepted}
use Rattle.chain_cert.proofs.CallerLemmas.{printed_is_cycle, shows_heaviest}

pub accepted : (P : Plan) (G : Data) (ws : List ℕ) (c : Certificate) → IsConsistent P → IsCertificate P G ws c → IsAccepted P ws c
accepted P G ws (Chain c l) con a = shows_heaviest P con ws c l a.2 a.3
accepted P G ws (Cycle c) con a = printed_is_cycle P con (ran P G) c a.1
accepted P G ws Trapped con a = tt
