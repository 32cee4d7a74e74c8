use Rattle.ptg_base.specs.TaskComparing.{same_task}
use Rattle.ptg_base.specs.TaskLaws.{same_task-decides}
use Rattle.flow_meaning.specs.Machine.{same_sent_item}
use Rattle.list_lemmas.proofs.Counts.{same_counts}
use Rattle.flow_meaning.proofs.Reordering.{same_sent_item-decides}
use Rattle.flow_meaning.proofs.machine.the_same_members_are_the_same_counts.Goals as goal

pub returns : goal.returns
returns c = record {
  claims = λ xs ys. same_counts same_task same_task-decides xs ys;
  sends = λ xs ys. same_counts same_sent_item same_sent_item-decides xs ys;
}
