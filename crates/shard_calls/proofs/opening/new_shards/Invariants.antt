use Rattle.shard_calls.specs.Opened.{AreNew}
use Rattle.shard_calls.proofs.opening.new_shards.Given as goal

abbrev pub invariant-loop : goal.invariant-loop
invariant-loop l = AreNew l.counter l.m.elems l.shards.items
