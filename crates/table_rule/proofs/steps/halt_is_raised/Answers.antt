use Rattle.table_rule.proofs.WordSteps.{raises_halt}
use Rattle.table_rule.proofs.steps.halt_is_raised.Goals as goal

pub returns : goal.returns
returns c = λ j n id m late. raises_halt j n id m late
