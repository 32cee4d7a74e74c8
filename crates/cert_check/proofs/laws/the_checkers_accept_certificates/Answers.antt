use Rattle.cert_check.proofs.Accepting.{accepted}
use Rattle.cert_check.proofs.laws.the_checkers_accept_certificates.Goals as goal

pub returns : goal.returns
returns c = λ P G ws d con a. accepted P G ws d con a
