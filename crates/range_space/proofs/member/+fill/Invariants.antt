use Rattle.std.proofs.Common.{length}
use Rattle.range_space.proofs.member.+fill.Given as goal

abbrev pub decreases-fill : goal.decreases-fill
decreases-fill l = length l.defs.now
