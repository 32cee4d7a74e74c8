use Rattle.table_rule.proofs.Opening.{opens}
use Rattle.table_rule.proofs.rules.the_rule_holds_before_the_first_step.Goals as goal

pub returns : goal.returns
returns c = λ j words shards o. opens j words shards o
