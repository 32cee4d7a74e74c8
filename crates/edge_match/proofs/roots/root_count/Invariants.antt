use Rattle.std.proofs.Common.{◌≡◌, ◌+◌}
use Rattle.ptg_base.specs.Lists.{IsIn}
use Rattle.ptg_base.specs.Task.{Task}
use Rattle.edge_match.proofs.RootCount.{root_total}
use Rattle.edge_match.proofs.roots.root_count.Given as goal

abbrev pub invariant-loop-t : goal.invariant-loop-t
invariant-loop-t l = record {
  can_next : (goal.iterator-loop-t).can_next l.t-iterator;
  is_finite : (goal.iterator-loop-t).is_finite l.t-iterator;
  among : (x : Task) → IsIn x l.t-iterator → IsIn x l.initial.t-iterator;
  roots : l.count + root_total l.plan l.t-iterator ≡ root_total l.plan l.initial.t-iterator;
}
