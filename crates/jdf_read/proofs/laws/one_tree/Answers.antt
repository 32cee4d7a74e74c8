use Rattle.jdf_read.proofs.Once.{one_tree}
use Rattle.jdf_read.proofs.laws.one_tree.Goals as goal

pub returns : goal.returns
returns c = one_tree
