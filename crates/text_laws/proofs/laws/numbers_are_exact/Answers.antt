use Rattle.text_laws.proofs.Numbers.{code_of_number, terminal_of_number}
use Rattle.text_laws.proofs.laws.numbers_are_exact.Goals as goal

pub returns-clause-terminals : goal.returns-clause-terminals
returns-clause-terminals c = terminal_of_number

pub returns-clause-codes : goal.returns-clause-codes
returns-clause-codes c = code_of_number
