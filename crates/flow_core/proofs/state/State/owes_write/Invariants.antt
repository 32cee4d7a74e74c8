use Rattle.ptg_base.specs.declared.edge.WriteBack.{WriteBack}
use Rattle.ptg_base.specs.declared.edge.Item.TheVariants as item
use Rattle.flow_core.specs.SentItems.{IsUnsent}
use Rattle.flow_core.proofs.Quiet.{IsSearched}
use Rattle.flow_core.proofs.state.State.owes_write.Given as goal

abbrev pub invariant-loop-write : goal.invariant-loop-write
invariant-loop-write l = record {
  can_next : (goal.iterator-loop-write).can_next l.write-iterator;
  is_finite : (goal.iterator-loop-write).is_finite l.write-iterator;
  searched : IsSearched (λ (x : WriteBack). IsUnsent l.self.sends (item.Write x)) l.initial.write-iterator l.write-iterator;
}
