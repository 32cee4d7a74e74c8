use Rattle.std.proofs.Common.{length}
use Rattle.dep_table.proofs.needs.Needs.+add_flows.Given as goal

abbrev pub decreases-add_flows : goal.decreases-add_flows
decreases-add_flows l = length l.flows.now
