use Rattle.std.proofs.Common.{length}
use Rattle.dep_iter.proofs.task.+counts_from.Given as goal

abbrev pub decreases-counts_from : goal.decreases-counts_from
decreases-counts_from l = length l.numbers.now
