use Rattle.chain_cert.proofs.Passing.{IsPassing}
use Rattle.chain_cert.proofs.order_builder.pass.Given as goal

abbrev pub invariant-loop-edge : goal.invariant-loop-edge
invariant-loop-edge l = record {
  can_next : (goal.iterator-loop-edge).can_next l.edge-iterator;
  is_finite : (goal.iterator-loop-edge).is_finite l.edge-iterator;
  passing : IsPassing l.m l.initial.edge-iterator l.edge-iterator l.initial.builder.order.items
      l.initial.builder.lacking.entries l.builder.order.items l.builder.lacking.entries;
}
