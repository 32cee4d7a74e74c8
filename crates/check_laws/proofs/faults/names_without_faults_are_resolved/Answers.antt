use Rattle.check_laws.proofs.NamesResolved.{option_there, arguments_there, indices_there, space_there}
use Rattle.check_laws.proofs.faults.names_without_faults_are_resolved.Goals as goal

pub returns-clause-arguments : goal.returns-clause-arguments
returns-clause-arguments c = arguments_there

pub returns-clause-indices : goal.returns-clause-indices
returns-clause-indices c = indices_there

pub returns-clause-option : goal.returns-clause-option
returns-clause-option c = option_there

pub returns-clause-space : goal.returns-clause-space
returns-clause-space c = space_there
