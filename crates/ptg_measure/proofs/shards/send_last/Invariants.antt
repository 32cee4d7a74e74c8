use Rattle.std.proofs.Common.{◌≡◌}
use Rattle.ptg_measure.specs.Tasks.{WaitFrom}
use Rattle.ptg_measure.proofs.shards.send_last.Given as goal

abbrev pub invariant-loop-number : goal.invariant-loop-number
invariant-loop-number l = record {
  waits : WaitFrom l.number l.size l.shard;
  elems : l.shard.elems ≡ l.initial.shard.elems;
}
