use Rattle.std.proofs.Common.{length}
use Rattle.cert_check.proofs.levels.+level_of.Given as goal

abbrev pub decreases-level_of : goal.decreases-level_of
decreases-level_of l = length l.rows.now
