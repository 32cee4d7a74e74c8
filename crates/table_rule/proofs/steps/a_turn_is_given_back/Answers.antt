use Rattle.table_rule.proofs.Giving.{leaves}
use Rattle.table_rule.proofs.steps.a_turn_is_given_back.Goals as goal

pub returns : goal.returns
returns c = λ j n id m k y z h same uses. leaves j n id m k y z h same uses
