use Rattle.print_laws.proofs.Spelled.{tree_spelled}
use Rattle.print_laws.proofs.laws.trees_are_spelled.Goals as goal

pub returns : goal.returns
returns c = λ text jdf h. tree_spelled text jdf h
