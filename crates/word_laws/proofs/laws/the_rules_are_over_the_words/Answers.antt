use Rattle.std.proofs.Common.{refl}
use Rattle.ptg_words.specs.Words.{no_verb}
use Rattle.word_laws.proofs.Rules.{no_read, rules_iff}
use Rattle.word_laws.proofs.laws.the_rules_are_over_the_words.Goals as goal

pub returns : goal.returns
returns c = record {
  none = no_verb refl;
  no_verb = no_read;
  rules = rules_iff;
}
