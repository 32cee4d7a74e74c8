use Rattle.job_laws.proofs.Spelled.{names_spelled, params_numbers}
use Rattle.job_laws.proofs.laws.jobs_are_spelled.Goals as goal

pub returns-clause-names : goal.returns-clause-names
returns-clause-names c = names_spelled

pub returns-clause-params : goal.returns-clause-params
returns-clause-params c = params_numbers
