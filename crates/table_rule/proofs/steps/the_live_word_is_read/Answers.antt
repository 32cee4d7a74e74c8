use Rattle.table_rule.proofs.WordSteps.{reads_live}
use Rattle.table_rule.proofs.steps.the_live_word_is_read.Goals as goal

pub returns : goal.returns
returns c = λ j n id m. reads_live j n id m
