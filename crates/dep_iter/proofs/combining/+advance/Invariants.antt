use Rattle.std.proofs.Common.{length}
use Rattle.dep_iter.proofs.combining.+advance.Given as goal

abbrev pub decreases-advance : goal.decreases-advance
decreases-advance l = length l.spans.now
