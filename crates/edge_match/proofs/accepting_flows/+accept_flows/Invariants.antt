use Rattle.std.proofs.Common.{◌-◌, length}
use Rattle.dep_iter.specs.Tasks.{flows_of}
use Rattle.edge_match.proofs.accepting_flows.+accept_flows.Given as goal

abbrev pub decreases-accept_flows : goal.decreases-accept_flows
decreases-accept_flows l = length (flows_of l.task.now.plan.now l.task.now.task.now) - l.number
