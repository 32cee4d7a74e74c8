use Rattle.std.proofs.Common.{length}
use Rattle.dep_iter.proofs.write_position.+write_nothing.Given as goal

abbrev pub decreases-write_nothing : goal.decreases-write_nothing
decreases-write_nothing l = length l.flows.now
