use Rattle.std.proofs.Common.{◌≡◌, ◌+◌, ◌*◌, length}
use Rattle.range_space.specs.Values.{values}
use Rattle.range_space.proofs.Counting.{IsSoFar}
use Rattle.range_space.proofs.size.+counting.Given as goal

abbrev pub decreases-count_from : goal.decreases-count_from
decreases-count_from l = 2 * length l.defs.now

abbrev pub decreases-count_among : goal.decreases-count_among
decreases-count_among l = 2 * length l.inner.now + 1

abbrev pub invariant-count_among-loop-v : goal.invariant-count_among-loop-v
invariant-count_among-loop-v l = record {
  can_next : (goal.iterator-count_among-loop-v).can_next l.v-iterator;
  is_finite : (goal.iterator-count_among-loop-v).is_finite l.v-iterator;
  same_values : l.outer ≡ l.initial.outer;
  so_far : IsSoFar l.initial.counts.tasks l.initial.counts.prefixes l.counts.tasks l.counts.prefixes l.class l.inner
      l.initial.outer (values l.steps.lo l.steps.hi l.steps.step) l.v-iterator;
}
