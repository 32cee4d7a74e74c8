use Rattle.table_rule.proofs.Splitting.{joins}
use Rattle.table_rule.proofs.steps.two_passes_are_joined.Goals as goal

pub returns : goal.returns
returns c = λ j id v other w named. joins j id v other w named
