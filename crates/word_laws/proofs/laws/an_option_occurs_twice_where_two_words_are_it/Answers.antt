use Rattle.word_laws.proofs.Twice.{twice_iff}
use Rattle.word_laws.proofs.laws.an_option_occurs_twice_where_two_words_are_it.Goals as goal

pub returns : goal.returns
returns c = twice_iff
