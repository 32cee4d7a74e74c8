use Rattle.std.proofs.Common.{length}
use Rattle.dep_iter.proofs.write_position.+next_written.Given as goal

abbrev pub decreases-next_written : goal.decreases-next_written
decreases-next_written l = length l.deps.now
