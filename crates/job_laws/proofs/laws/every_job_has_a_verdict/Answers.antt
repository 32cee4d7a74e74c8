use Rattle.job_laws.proofs.Always.{job_some, texts_some}
use Rattle.job_laws.proofs.laws.every_job_has_a_verdict.Goals as goal

pub returns-clause-texts : goal.returns-clause-texts
returns-clause-texts c = texts_some

pub returns-clause-job : goal.returns-clause-job
returns-clause-job c = job_some
