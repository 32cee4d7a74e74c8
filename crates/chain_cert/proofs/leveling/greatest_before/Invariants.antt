use Rattle.std.proofs.Common.{◌≡◌, max, map}
use Rattle.ptg_base.specs.declared.edge.Edge.{Edge}
use Rattle.chain_cert.specs.Finding.{greatest_among}
use Rattle.chain_cert.proofs.leveling.greatest_before.Given as goal

abbrev pub invariant-loop-edge : goal.invariant-loop-edge
invariant-loop-edge l = record {
  can_next : (goal.iterator-loop-edge).can_next l.edge-iterator;
  is_finite : (goal.iterator-loop-edge).is_finite l.edge-iterator;
  greatest : max l.greatest (greatest_among l.table.entries (map (λ (e : Edge). e.from) l.edge-iterator))
      ≡ greatest_among l.table.entries (map (λ (e : Edge). e.from) l.initial.edge-iterator);
}
