use Rattle.std.proofs.Common.{length}
use Rattle.range_space.proofs.member.+complete.Given as goal

abbrev pub decreases-complete : goal.decreases-complete
decreases-complete l = length l.defs.now
