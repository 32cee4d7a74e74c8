use Rattle.top_laws.proofs.Once.{one_meaning, one_output}
use Rattle.top_laws.proofs.laws.one_meaning.Goals as goal

pub returns-clause-meaning : goal.returns-clause-meaning
returns-clause-meaning c = one_meaning

pub returns-clause-output : goal.returns-clause-output
returns-clause-output c = one_output
