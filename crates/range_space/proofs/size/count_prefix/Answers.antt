use Rattle.std.proofs.Common.{refl}
use Rattle.range_space.proofs.Counting.{stops_at_once}
use Rattle.range_space.proofs.size.count_prefix.Goals as goal

pub returns-then-counts-eq-MOST_PREFIXES-clause-fault : goal.returns-then-counts-eq-MOST_PREFIXES-clause-fault
returns-then-counts-eq-MOST_PREFIXES-clause-fault c =
    stops_at_once _ _ _ _ c.args.counts.now.tasks_at_most c.args.counts.now.prefixes_at_most (c.if-counts-eq-MOST_PREFIXES.true, refl)
