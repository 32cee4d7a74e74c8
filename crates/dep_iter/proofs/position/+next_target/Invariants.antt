use Rattle.std.proofs.Common.{length}
use Rattle.dep_iter.proofs.position.+next_target.Given as goal

abbrev pub decreases-next_target : goal.decreases-next_target
decreases-next_target l = length l.p.now.flows.now
