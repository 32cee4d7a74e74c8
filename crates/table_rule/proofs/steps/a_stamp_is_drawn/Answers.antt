use Rattle.table_rule.proofs.Stamping.{draws_stamp}
use Rattle.table_rule.proofs.steps.a_stamp_is_drawn.Goals as goal

pub returns : goal.returns
returns c = λ j n id m t runs none_yet named. draws_stamp j n id m t runs none_yet named
