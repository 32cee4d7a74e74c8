use Rattle.std.proofs.Common.{length}
use Rattle.range_space.proofs.walk.+advance.Given as goal

abbrev pub decreases-advance : goal.decreases-advance
decreases-advance l = length l.defs.now
