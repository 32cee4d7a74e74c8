use Rattle.std.proofs.Common.{◌≡◌, ◌++◌}
use Rattle.ptg_base.specs.Lists.{IsIn}
use Rattle.ptg_base.specs.Task.{Task}
use Rattle.dep_iter.specs.Tasks.{IsTask, all_tasks}
use Rattle.flow_core.specs.RunState.{machine}
use Rattle.flow_core.specs.Rows.{waits_among}
use Rattle.flow_core.proofs.state.State.waits.Given as goal

-- what is left are tasks of the job; what is found, and what is left
abbrev pub invariant-loop-t : goal.invariant-loop-t
invariant-loop-t l = record {
  can_next : (goal.iterator-loop-t).can_next l.t-iterator;
  is_finite : (goal.iterator-loop-t).is_finite l.t-iterator;
  are_tasks : (t : Task) → IsIn t l.t-iterator → IsTask l.m t;
  so_far : l.rows.items ++ waits_among l.m (machine l.self) l.t-iterator ≡ waits_among l.m (machine l.self) (all_tasks l.m);
}
