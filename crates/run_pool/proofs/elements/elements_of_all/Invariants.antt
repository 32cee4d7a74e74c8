use Rattle.std.proofs.Common.{◌≡◌, ◌+◌}
use Rattle.ptg_base.specs.Lists.{IsIn}
use Rattle.ptg_base.specs.Task.{Task}
use Rattle.dep_iter.specs.Tasks.{IsTask}
use Rattle.list_lemmas.specs.Counting.{weigh}
use Rattle.run_pool.specs.Bytes.{sent_elements}
use Rattle.run_pool.specs.Elements.{task_elements}
use Rattle.run_pool.proofs.elements.elements_of_all.Given as goal

abbrev pub invariant-loop-t : goal.invariant-loop-t
invariant-loop-t l = record {
  can_next : (goal.iterator-loop-t).can_next l.t-iterator;
  is_finite : (goal.iterator-loop-t).is_finite l.t-iterator;
  so_far : l.all + weigh (task_elements l.plan) l.t-iterator ≡ sent_elements l.plan;
  tasks : (t : Task) → IsIn t l.t-iterator → IsTask l.plan t;
}
