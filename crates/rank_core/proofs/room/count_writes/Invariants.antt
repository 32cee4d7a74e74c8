use Rattle.std.proofs.Common.{◌≡◌, ◌+◌, length}
use Rattle.rank_core.proofs.room.count_writes.Given as goal

abbrev pub invariant-loop-write : goal.invariant-loop-write
invariant-loop-write l = record {
  can_next : (goal.iterator-loop-write).can_next l._write-iterator;
  is_finite : (goal.iterator-loop-write).is_finite l._write-iterator;
  counted : l.count + length l._write-iterator ≡ length l.initial._write-iterator;
}
