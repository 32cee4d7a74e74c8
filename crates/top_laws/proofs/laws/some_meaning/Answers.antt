use Rattle.top_laws.proofs.Always.{some_meaning, some_output}
use Rattle.top_laws.proofs.laws.some_meaning.Goals as goal

pub returns-clause-meaning : goal.returns-clause-meaning
returns-clause-meaning c = some_meaning c.words_form_one_command.ensures.some

pub returns-clause-output : goal.returns-clause-output
returns-clause-output c = some_output c.words_form_one_command.ensures.some
