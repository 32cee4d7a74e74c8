use Rattle.std.proofs.Common.{◌-◌, length}
use Rattle.edge_match.proofs.taking.+take_from.Given as goal

abbrev pub decreases-take_from : goal.decreases-take_from
decreases-take_from l = length l.at.now.flow.now.ins - l.k
