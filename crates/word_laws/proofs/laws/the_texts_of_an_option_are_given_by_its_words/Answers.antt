use Rattle.ptg_words.specs.Parts.{shards, workers}
use Rattle.word_laws.proofs.Texts.{texts_iff}
use Rattle.word_laws.proofs.laws.the_texts_of_an_option_are_given_by_its_words.Goals as goal

pub returns : goal.returns
returns c = record {
  workers = λ verb words text. texts_iff verb workers words text;
  shards = λ verb words text. texts_iff verb shards words text;
}
