use Rattle.std.proofs.Common.{◌≡◌}
use Rattle.ptg_measure.proofs.shards.write_back.Given as goal

abbrev pub invariant-loop-number : goal.invariant-loop-number
invariant-loop-number l = l.shard.elems ≡ l.initial.shard.elems
