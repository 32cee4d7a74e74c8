use Rattle.std.proofs.Common.{length}
use Rattle.edge_walk.proofs.position.+next_held.Given as goal

abbrev pub decreases-next_held : goal.decreases-next_held
decreases-next_held l = length l.deps.now
