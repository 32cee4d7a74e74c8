-- The count and the tasks that are still left make up all tasks.
use Rattle.std.proofs.Common.{◌≡◌, length, ◌+◌}
use Rattle.range_space.specs.Tasks.{tasks}
use Rattle.ptg_measure.proofs.spaces.walked.Given as goal

abbrev pub invariant-loop-task : goal.invariant-loop-task
invariant-loop-task l = l.count + length l._task-iterator ≡ length (tasks l.space)
