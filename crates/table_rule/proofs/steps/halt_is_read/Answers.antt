use Rattle.table_rule.proofs.Looking.{reads_halt}
use Rattle.table_rule.proofs.steps.halt_is_read.Goals as goal

pub returns : goal.returns
returns c = λ j n id m. reads_halt j n id m
