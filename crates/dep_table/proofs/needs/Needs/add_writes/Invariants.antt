use Rattle.std.proofs.Common.{◌≡◌}
use Rattle.ptg_base.specs.Lists.{IsIn}
use Rattle.ptg_base.specs.declared.edge.WriteBack.{WriteBack}
use Rattle.dep_table.proofs.NeedsSteps.{WritesLeft}
use Rattle.dep_table.proofs.needs.Needs.add_writes.Given as goal

abbrev pub invariant-loop-write : goal.invariant-loop-write
invariant-loop-write l = record {
  can_next : (goal.iterator-loop-write).can_next l.write-iterator;
  is_finite : (goal.iterator-loop-write).is_finite l.write-iterator;
  from : (w : WriteBack) → IsIn w l.write-iterator → w.from ≡ l.at.task.now;
  left : WritesLeft l.at.plan.now l.write-iterator l.initial.write-iterator l.initial.self l.self;
}
