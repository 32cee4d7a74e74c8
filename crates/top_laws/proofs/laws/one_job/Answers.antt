use Rattle.top_laws.proofs.Once.{one_job}
use Rattle.top_laws.proofs.laws.one_job.Goals as goal

pub returns : goal.returns
returns c = one_job
