use Rattle.std.proofs.Common.{◌-◌, length}
use Rattle.dep_iter.specs.Tasks.{all_tasks}
use Rattle.flow_core.specs.Goals.{AreGoals}
use Rattle.flow_core.specs.OneThread.{IsBetweenTasks, ended_count}
use Rattle.flow_core.proofs.one_thread.run_tasks.Given as goal

abbrev pub invariant-loop-t : goal.invariant-loop-t
invariant-loop-t l = record { between : IsBetweenTasks l.m l.given l.runner.run l.runner.running.items; goals : AreGoals l.m l.runner.goals.entries }

-- in each turn, one more task ends
abbrev pub decreases-loop-t : goal.decreases-loop-t
decreases-loop-t l = length (all_tasks l.m) - ended_count l.runner.run
