use Rattle.chain_exists.proofs.Fitting.{fits}
use Rattle.chain_exists.proofs.laws.a_certificate_fits_the_answer.Goals as goal

pub returns : goal.returns
returns c = λ P G ws certificate con h. fits P G ws con certificate h
