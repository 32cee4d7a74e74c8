use Rattle.std.proofs.Common.{length}
use Rattle.dep_iter.proofs.write_position.+name_no_place.Given as goal

abbrev pub decreases-name_no_place : goal.decreases-name_no_place
decreases-name_no_place l = length l.deps.now
