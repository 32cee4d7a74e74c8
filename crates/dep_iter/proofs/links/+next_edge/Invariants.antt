use Rattle.std.proofs.Common.{length}
use Rattle.dep_iter.specs.Walking.{targets_left}
use Rattle.dep_iter.proofs.links.+next_edge.Given as goal

-- how many targets are left
abbrev pub decreases-next_edge : goal.decreases-next_edge
decreases-next_edge l = length (targets_left l.end.direction l.env.now l.p.now)
