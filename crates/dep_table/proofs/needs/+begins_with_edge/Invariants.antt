use Rattle.std.proofs.Common.{length}
use Rattle.dep_table.proofs.needs.+begins_with_edge.Given as goal

abbrev pub decreases-begins_with_edge : goal.decreases-begins_with_edge
decreases-begins_with_edge l = length l.deps.now
