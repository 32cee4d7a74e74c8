use Rattle.dep_iter.specs.Tasks.{all_tasks}
use Rattle.flow_meaning.specs.Machine.{MayClaim}
use Rattle.flow_core.specs.RunState.{machine}
use Rattle.flow_core.proofs.Quiet.{IsSearched}
use Rattle.flow_core.proofs.state.State.has_ready.Given as goal

abbrev pub invariant-loop-t : goal.invariant-loop-t
invariant-loop-t l = record {
  can_next : (goal.iterator-loop-t).can_next l.t-iterator;
  is_finite : (goal.iterator-loop-t).is_finite l.t-iterator;
  searched : IsSearched (MayClaim l.m (machine l.self)) (all_tasks l.m) l.t-iterator;
}
