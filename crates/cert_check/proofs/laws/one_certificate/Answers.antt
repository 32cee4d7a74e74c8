use Rattle.chain_exists.proofs.CallerLemmas.{one}
use Rattle.cert_check.proofs.laws.one_certificate.Goals as goal

pub returns : goal.returns
returns c = λ P G ws a b con x y. one P G ws a b con x y
