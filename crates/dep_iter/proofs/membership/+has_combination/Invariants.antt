use Rattle.std.proofs.Common.{length}
use Rattle.dep_iter.proofs.membership.+has_combination.Given as goal

abbrev pub decreases-has_combination : goal.decreases-has_combination
decreases-has_combination l = length l.args.now
