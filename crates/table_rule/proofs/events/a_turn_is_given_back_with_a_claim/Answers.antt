use Rattle.table_rule.proofs.Claiming.{claims}
use Rattle.table_rule.proofs.events.a_turn_is_given_back_with_a_claim.Goals as goal

pub returns : goal.returns
returns c = λ j n id m k t y z tiles h takes uses. claims j n id m k t y z tiles h takes uses
