use Rattle.std.proofs.Common.{length}
use Rattle.dep_iter.proofs.single.+push_only.Given as goal

abbrev pub decreases-push_only : goal.decreases-push_only
decreases-push_only l = length l.args.now
