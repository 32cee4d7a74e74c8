use Rattle.std.proofs.Common.{length}
use Rattle.range_space.proofs.member.+param_value.Given as goal

abbrev pub decreases-param_value : goal.decreases-param_value
decreases-param_value l = length l.params.now
