use Rattle.std.proofs.Common.{◌≡◌, length}
use Rattle.dep_iter.specs.Consistent.{roots_among}
use Rattle.shard_calls.specs.Opened.{AreOpened, placement_by}
use Rattle.shard_calls.proofs.TaskWalks.{IsSoFar}
use Rattle.shard_calls.proofs.opening.opened.Given as goal
use Rattle.dep_iter.specs.Consistent.{roots_among}

abbrev pub invariant-loop-t : goal.invariant-loop-t
invariant-loop-t l = record {
  can_next : (goal.iterator-loop-t).can_next l.t-iterator;
  is_finite : (goal.iterator-loop-t).is_finite l.t-iterator;
  count : length l.opened.items ≡ l.count;
  left : l.left ≡ length (roots_among l.m l.t-iterator);
  so_far : IsSoFar l.m (λ ts. AreOpened l.m (placement_by l.to l.m l.count) ts l.opened.items) l.t-iterator;
}
