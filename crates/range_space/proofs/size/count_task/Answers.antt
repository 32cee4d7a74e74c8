use Rattle.std.proofs.Common.{refl}
use Rattle.range_space.proofs.Counting.{stops_at_once}
use Rattle.range_space.proofs.size.count_task.Goals as goal

pub returns-then-counts-eq-MOST_TASKS-clause-fault : goal.returns-then-counts-eq-MOST_TASKS-clause-fault
returns-then-counts-eq-MOST_TASKS-clause-fault c =
    stops_at_once _ _ _ _ c.args.counts.now.tasks_at_most c.args.counts.now.prefixes_at_most (c.if-counts-eq-MOST_TASKS.true, refl)
