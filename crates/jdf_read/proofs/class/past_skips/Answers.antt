use Rattle.std.proofs.Common.{arith}
use Rattle.jdf_read.proofs.Skips.{past_all_is, skip_moves}
use Rattle.jdf_read.proofs.class.past_skips.Goals as goal

pub more-init : goal.more-init
more-init c = past_all_is c.args.tokens.now

pub more-smaller : goal.more-smaller
more-smaller c = omega (arith, skip_moves _ _ c.in_ok-rest.ensures)
