use Rattle.std.proofs.Common.{◌-◌, length}
use Rattle.dep_iter.specs.Tasks.{flows_of}
use Rattle.edge_match.proofs.flows.+check_flows.Given as goal

abbrev pub decreases-check_flows : goal.decreases-check_flows
decreases-check_flows l = length (flows_of l.task.now.plan.now l.task.now.task.now) - l.number
