use Rattle.word_laws.proofs.Reading.{which, count}
use Rattle.word_laws.proofs.laws.the_other_words_are_the_operands.Goals as goal

pub returns : goal.returns
returns c = record {
  which = which;
  count = count;
}
