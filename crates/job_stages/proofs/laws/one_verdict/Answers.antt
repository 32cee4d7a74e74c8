use Rattle.job_stages.proofs.Once.{job_once, texts_once}
use Rattle.job_stages.proofs.laws.one_verdict.Goals as goal

pub returns-clause-texts : goal.returns-clause-texts
returns-clause-texts c = texts_once

pub returns-clause-job : goal.returns-clause-job
returns-clause-job c = job_once
