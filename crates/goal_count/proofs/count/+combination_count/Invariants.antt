use Rattle.std.proofs.Common.{length}
use Rattle.goal_count.proofs.count.+combination_count.Given as goal

abbrev pub decreases-combination_count : goal.decreases-combination_count
decreases-combination_count l = length l.args.now
