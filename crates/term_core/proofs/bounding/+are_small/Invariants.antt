use Rattle.std.proofs.Common.{length}
use Rattle.term_core.proofs.bounding.+are_small.Given as goal

abbrev pub decreases-are_small : goal.decreases-are_small
decreases-are_small l = length l.numbers.now
