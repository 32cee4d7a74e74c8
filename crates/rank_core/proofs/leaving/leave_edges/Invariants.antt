use Rattle.rank_core.proofs.LeftWithin.{EdgesLeft}
use Rattle.rank_core.proofs.leaving.leave_edges.Given as goal

abbrev pub invariant-loop-edge : goal.invariant-loop-edge
invariant-loop-edge l = record {
  can_next : (goal.iterator-loop-edge).can_next l.edge-iterator;
  is_finite : (goal.iterator-loop-edge).is_finite l.edge-iterator;
  left : EdgesLeft l.at l.initial.edge-iterator l.edge-iterator l.shard;
}
