use Rattle.chain_cert.proofs.CallerLemmas.{printed_is_cycle}
use Rattle.cert_check.proofs.laws.the_printed_cycle_is_a_cycle.Goals as goal

pub returns : goal.returns
returns c = λ P ran cycle con p. printed_is_cycle P con ran cycle p
