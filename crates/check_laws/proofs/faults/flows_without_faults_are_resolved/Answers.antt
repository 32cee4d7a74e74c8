use Rattle.check_laws.proofs.FlowsResolved.{element_there, flow_is_there}
use Rattle.check_laws.proofs.faults.flows_without_faults_are_resolved.Goals as goal

pub returns-clause-element : goal.returns-clause-element
returns-clause-element c = element_there

pub returns-clause-flow : goal.returns-clause-flow
returns-clause-flow c = flow_is_there
