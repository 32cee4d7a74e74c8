use Rattle.chain_exists.proofs.CallerLemmas.{complete_exactly}
use Rattle.cert_check.proofs.laws.a_job_is_complete_without_cycle_and_trap.Goals as goal

pub returns : goal.returns
returns c = λ P G con. complete_exactly P con G
