use Rattle.std.proofs.Common.{length}
use Rattle.edge_walk.proofs.position.+next_active.Given as goal

abbrev pub decreases-next_active : goal.decreases-next_active
decreases-next_active l = length l.p.flows.now
