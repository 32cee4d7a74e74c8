use Rattle.table_rule.proofs.WordSteps.{raises_live}
use Rattle.table_rule.proofs.steps.the_live_word_is_raised.Goals as goal

pub returns : goal.returns
returns c = λ j n id m room named. raises_live j n id m room named
