use Rattle.std.proofs.Common.{length}
use Rattle.flow_core.proofs.inputs.+take_tiles.Given as goal

abbrev pub decreases-take_tiles : goal.decreases-take_tiles
decreases-take_tiles l = length l.edges.now
