use Rattle.std.proofs.Common.{◌≡◌, []}
use Rattle.flow_core.specs.Goals.{AreGoals}
use Rattle.flow_core.specs.OneThread.{running_tasks}
use Rattle.flow_core.proofs.OneThread.{IsSoFar}
use Rattle.flow_core.proofs.sending.send_all.Given as goal

abbrev pub invariant-loop-item : goal.invariant-loop-item
invariant-loop-item l = record {
  can_next : (goal.iterator-loop-item).can_next l.item-iterator;
  is_finite : (goal.iterator-loop-item).is_finite l.item-iterator;
  so_far : IsSoFar l.m [] [] l.initial.item-iterator l.item-iterator l.initial.runner.run l.runner.run;
  running : l.runner.running.items ≡ running_tasks l.runner.run;
  goals : AreGoals l.m l.runner.goals.entries;
}
