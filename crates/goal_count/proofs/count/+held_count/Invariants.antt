use Rattle.std.proofs.Common.{length}
use Rattle.goal_count.proofs.count.+held_count.Given as goal

abbrev pub decreases-held_count : goal.decreases-held_count
decreases-held_count l = length l.deps.now
