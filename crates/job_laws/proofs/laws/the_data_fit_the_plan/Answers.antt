use Rattle.job_laws.proofs.Judged.{data_fit}
use Rattle.job_laws.proofs.laws.the_data_fit_the_plan.Goals as goal

pub returns : goal.returns
returns c = data_fit
