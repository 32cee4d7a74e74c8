use Rattle.table_rule.proofs.Splitting.{splits_one}
use Rattle.table_rule.proofs.steps.a_pass_is_split.Goals as goal

pub returns : goal.returns
returns c = λ j id v one. splits_one j id v one
