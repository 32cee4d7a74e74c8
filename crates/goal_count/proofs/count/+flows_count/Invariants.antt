use Rattle.std.proofs.Common.{length}
use Rattle.goal_count.proofs.count.+flows_count.Given as goal

abbrev pub decreases-flows_count : goal.decreases-flows_count
decreases-flows_count l = length l.flows.now
