use Rattle.std.proofs.Common.{◌≡◌, []}
use Rattle.dep_iter.specs.Tasks.{all_tasks}
use Rattle.flow_core.specs.OneThread.{IsOpening, running_tasks}
use Rattle.flow_core.proofs.OneThread.{IsSoFar}
use Rattle.flow_core.proofs.claiming.claim_roots.Given as goal

abbrev pub invariant-loop-t : goal.invariant-loop-t
invariant-loop-t l = record {
  can_next : (goal.iterator-loop-t).can_next l.t-iterator;
  is_finite : (goal.iterator-loop-t).is_finite l.t-iterator;
  so_far : IsSoFar l.m (all_tasks l.m) l.t-iterator [] [] l.initial.runner.run l.runner.run;
  running : l.runner.running.items ≡ running_tasks l.runner.run;
  opening : IsOpening l.runner.run;
  goals : l.runner.goals ≡ l.initial.runner.goals;
}
