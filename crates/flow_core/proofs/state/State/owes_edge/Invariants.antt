use Rattle.ptg_base.specs.declared.edge.Edge.{Edge}
use Rattle.ptg_base.specs.declared.edge.Item.TheVariants as item
use Rattle.flow_core.specs.SentItems.{IsUnsent}
use Rattle.flow_core.proofs.Quiet.{IsSearched}
use Rattle.flow_core.proofs.state.State.owes_edge.Given as goal

abbrev pub invariant-loop-edge : goal.invariant-loop-edge
invariant-loop-edge l = record {
  can_next : (goal.iterator-loop-edge).can_next l.edge-iterator;
  is_finite : (goal.iterator-loop-edge).is_finite l.edge-iterator;
  searched : IsSearched (λ (x : Edge). IsUnsent l.self.sends (item.Edge x)) l.initial.edge-iterator l.edge-iterator;
}
