use Rattle.rank_core.proofs.Outgoings.{OutgoingSoFar}
use Rattle.rank_core.proofs.room.outgoing_of.Given as goal

abbrev pub invariant-loop-edge : goal.invariant-loop-edge
invariant-loop-edge l = record {
  can_next : (goal.iterator-loop-edge).can_next l.edge-iterator;
  is_finite : (goal.iterator-loop-edge).is_finite l.edge-iterator;
  so_far : OutgoingSoFar l.at l.initial.edge-iterator l.edge-iterator l.outgoing;
}
