use Rattle.jdf_tree.proofs.TreeLimits.{texts_within}
use Rattle.jdf_tree.proofs.laws.trees_are_within_limits.Goals as goal

pub returns : goal.returns
returns c = texts_within
