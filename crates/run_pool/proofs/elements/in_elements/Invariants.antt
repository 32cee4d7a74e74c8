use Rattle.std.proofs.Common.{◌≡◌, ◌+◌}
use Rattle.ptg_base.specs.Lists.{IsIn}
use Rattle.ptg_base.specs.declared.edge.Edge.{Edge}
use Rattle.list_lemmas.specs.Counting.{weigh}
use Rattle.run_pool.specs.Elements.{carried_elements, in_elements}
use Rattle.run_pool.proofs.elements.in_elements.Given as goal

abbrev pub invariant-loop-edge : goal.invariant-loop-edge
invariant-loop-edge l = record {
  can_next : (goal.iterator-loop-edge).can_next l.edge-iterator;
  is_finite : (goal.iterator-loop-edge).is_finite l.edge-iterator;
  so_far : l.all + weigh (carried_elements l.at.plan.now) l.edge-iterator ≡ in_elements l.at.plan.now l.at.task.now;
  to : (e : Edge) → IsIn e l.edge-iterator → e.to ≡ l.at.task.now;
}
