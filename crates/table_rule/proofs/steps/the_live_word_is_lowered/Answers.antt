use Rattle.table_rule.proofs.WordSteps.{lowers_live}
use Rattle.table_rule.proofs.steps.the_live_word_is_lowered.Goals as goal

pub returns : goal.returns
returns c = λ j n id m some_credit named. lowers_live j n id m some_credit named
