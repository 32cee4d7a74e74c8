use Rattle.table_rule.proofs.Looking.{takes_turn}
use Rattle.table_rule.proofs.steps.a_turn_is_taken_or_found_taken.Goals as goal

pub returns : goal.returns
returns c = λ j n id m k near named. takes_turn j n id m k near named
