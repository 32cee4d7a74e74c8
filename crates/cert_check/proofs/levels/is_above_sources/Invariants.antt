use Rattle.cert_check.proofs.Lookups.{AboveSoFar}
use Rattle.cert_check.proofs.levels.is_above_sources.Given as goal

abbrev pub invariant-loop-edge : goal.invariant-loop-edge
invariant-loop-edge l = record {
  can_next : (goal.iterator-loop-edge).can_next l.edge-iterator;
  is_finite : (goal.iterator-loop-edge).is_finite l.edge-iterator;
  above : AboveSoFar l.levels l.w l.row.1 l.initial.edge-iterator l.edge-iterator;
}
