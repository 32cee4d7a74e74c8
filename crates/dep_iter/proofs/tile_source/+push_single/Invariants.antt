use Rattle.std.proofs.Common.{length}
use Rattle.dep_iter.proofs.tile_source.+push_single.Given as goal

abbrev pub decreases-push_single : goal.decreases-push_single
decreases-push_single l = length l.args.now
