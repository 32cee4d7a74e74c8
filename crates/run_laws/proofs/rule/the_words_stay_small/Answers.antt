use Rattle.table_rule.proofs.CallerLemmas.{live_at_most}
use Rattle.run_laws.proofs.Words.{stamp_at_most}
use Rattle.run_laws.proofs.rule.the_words_stay_small.Goals as goal

pub returns : goal.returns
returns c = record {
  live = λ j s rule. live_at_most j s rule.0 rule.1;
  stamp = λ j s rule. stamp_at_most j s rule.0 rule.1;
}
