use Rattle.std.proofs.Common.{◌≡◌, length}
use Rattle.shard_meaning.specs.Placing.{shard_of}
use Rattle.dep_table.specs.Needs.{AreNeedsOf, CanCountEach, HaveTypes}
use Rattle.shard_calls.proofs.CallerLemmas.{IsSoFar}
use Rattle.dep_table.proofs.preloaded.needs_of.Given as goal

abbrev pub invariant-loop-t : goal.invariant-loop-t
invariant-loop-t l = record {
  can_next : (goal.iterator-loop-t).can_next l.t-iterator;
  is_finite : (goal.iterator-loop-t).is_finite l.t-iterator;
  count : length l.needs.items ≡ l.shards;
  types : HaveTypes (length l.m.elems) l.needs.items;
  room : CanCountEach l.m l.t-iterator l.needs.items;
  so_far : IsSoFar l.m (λ ts. AreNeedsOf l.m (shard_of l.m l.shards) ts l.needs.items) l.t-iterator;
}
