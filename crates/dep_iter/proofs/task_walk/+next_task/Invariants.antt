use Rattle.std.proofs.Common.{length, ◌-◌}
use Rattle.dep_iter.proofs.task_walk.+next_task.Given as goal

abbrev pub decreases-next_task : goal.decreases-next_task
decreases-next_task l = length l.plan.now.classes - l.later.now
