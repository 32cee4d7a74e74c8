use Rattle.dep_iter.specs.Edges.{in_edges}
use Rattle.dep_iter.specs.Items.{out_edges}
use Rattle.dep_iter.specs.Tasks.{all_tasks}
use Rattle.dep_iter.proofs.Listing.{listed}
use Rattle.dep_iter.proofs.laws.a_task_has_no_more_edges_than_the_job.Goals as goal
use Rattle.list_lemmas.proofs.Members.{length-part}

pub returns : goal.returns
returns c = record {
  ins = λ P t h. length-part (in_edges P) (all_tasks P) t ((listed P t).0 h);
  outs = λ P t h. length-part (out_edges P) (all_tasks P) t ((listed P t).0 h);
}
