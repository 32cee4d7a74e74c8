use Rattle.job_laws.proofs.Judged.{judged_alone}
use Rattle.job_laws.proofs.laws.the_jdf_is_judged_alone.Goals as goal

pub returns : goal.returns
returns c = judged_alone
