use Rattle.table_rule.proofs.SameMembers.{joined_parts}
use Rattle.table_rule.proofs.rules.the_rule_holds_of_the_joined_records.Goals as goal

pub returns : goal.returns
returns c = λ j s rule. joined_parts j s rule
