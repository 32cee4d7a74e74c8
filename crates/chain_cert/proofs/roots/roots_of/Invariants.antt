use Rattle.std.proofs.Common.{◌≡◌, ◌++◌, ◌==◌}
use Rattle.std.specs.List.{filter}
use Rattle.ptg_base.specs.Lists.{IsIn}
use Rattle.ptg_base.specs.Task.{Task}
use Rattle.dep_iter.specs.Tasks.{IsTask}
use Rattle.dep_iter.specs.Edges.{goal as edges_into}
use Rattle.dep_iter.specs.Consistent as consistent
use Rattle.chain_cert.proofs.roots.roots_of.Given as goal

-- what is left are tasks of the job; what is found, and what is left to be found
abbrev pub invariant-loop-t : goal.invariant-loop-t
invariant-loop-t l = record {
  can_next : (goal.iterator-loop-t).can_next l.t-iterator;
  is_finite : (goal.iterator-loop-t).is_finite l.t-iterator;
  are_tasks : (t : Task) → IsIn t l.t-iterator → IsTask l.m t;
  so_far : l.roots.items ++ filter (λ t. edges_into l.m t == 0) l.t-iterator ≡ consistent.roots l.m;
}
