use Rattle.dep_iter.proofs.Distinctness.{distinct_in, distinct_out}
use Rattle.dep_iter.proofs.laws.edges_of_a_dependence_differ.Goals as goal

pub returns : goal.returns
returns c = record { ins = distinct_in; outs = distinct_out }
