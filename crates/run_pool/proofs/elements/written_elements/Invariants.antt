use Rattle.std.proofs.Common.{◌≡◌, ◌+◌}
use Rattle.ptg_base.specs.Lists.{IsIn}
use Rattle.ptg_base.specs.declared.edge.WriteBack.{WriteBack}
use Rattle.list_lemmas.specs.Counting.{weigh}
use Rattle.run_pool.specs.Bytes.{write_elements}
use Rattle.run_pool.specs.Elements.{written_elements}
use Rattle.run_pool.proofs.elements.written_elements.Given as goal

abbrev pub invariant-loop-write : goal.invariant-loop-write
invariant-loop-write l = record {
  can_next : (goal.iterator-loop-write).can_next l.write-iterator;
  is_finite : (goal.iterator-loop-write).is_finite l.write-iterator;
  so_far : l.all + weigh (write_elements l.at.plan.now) l.write-iterator ≡ written_elements l.at.plan.now l.at.task.now;
  from : (w : WriteBack) → IsIn w l.write-iterator → w.from ≡ l.at.task.now;
}
