use Rattle.std.proofs.Common.{length}
use Rattle.edge_walk.specs.Walking.{left}
use Rattle.edge_walk.proofs.ties.+next_tie.Given as goal

-- how many active dependences are left
abbrev pub decreases-next_tie : goal.decreases-next_tie
decreases-next_tie l = length (left l.direction l.env.now l.p.now)
