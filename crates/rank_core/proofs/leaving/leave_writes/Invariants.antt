use Rattle.rank_core.proofs.LeftWithin.{WritesLeft}
use Rattle.rank_core.proofs.leaving.leave_writes.Given as goal

abbrev pub invariant-loop-write : goal.invariant-loop-write
invariant-loop-write l = record {
  can_next : (goal.iterator-loop-write).can_next l.write-iterator;
  is_finite : (goal.iterator-loop-write).is_finite l.write-iterator;
  left : WritesLeft l.at l.initial.write-iterator l.write-iterator l.initial.shard l.shard;
}
