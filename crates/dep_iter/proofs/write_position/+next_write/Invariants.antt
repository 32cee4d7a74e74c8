use Rattle.std.proofs.Common.{length}
use Rattle.dep_iter.proofs.write_position.+next_write.Given as goal

abbrev pub decreases-next_write : goal.decreases-next_write
decreases-next_write l = length l.p.now.flows.now
