use Rattle.range_space.proofs.Distinct.{distinct_tasks}
use Rattle.range_space.proofs.laws.tasks_are_distinct.Goals as goal

pub returns : goal.returns
returns c = λ s well. distinct_tasks s well
