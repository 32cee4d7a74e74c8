use Rattle.ptg_words.proofs.CommandFacts.{numbers_in_range}
use Rattle.ptg_words.proofs.laws.commands_have_numbers_in_range.Goals as goal

pub returns : goal.returns
returns c = numbers_in_range
