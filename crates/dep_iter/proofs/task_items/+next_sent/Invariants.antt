use Rattle.std.proofs.Common.{length}
use Rattle.term_core.specs.declared.direction.Direction.TheVariants.{Out}
use Rattle.dep_iter.specs.Walking.{targets_left}
use Rattle.dep_iter.proofs.task_items.+next_sent.Given as goal

-- how many targets are left
abbrev pub decreases-next_sent : goal.decreases-next_sent
decreases-next_sent l = length (targets_left Out l.env.now l.p.now)
