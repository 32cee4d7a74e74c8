use Rattle.chain_exists.proofs.Existing.{some_certificate}
use Rattle.chain_exists.proofs.laws.every_job_has_a_certificate.Goals as goal

pub returns : goal.returns
returns c = λ P G ws con. some_certificate P G ws con
