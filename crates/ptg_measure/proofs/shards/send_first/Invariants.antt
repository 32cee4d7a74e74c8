use Rattle.std.proofs.Common.{◌≡◌}
use Rattle.ptg_measure.specs.Tasks.{HasNoneFrom, WaitFrom}
use Rattle.ptg_measure.proofs.shards.send_first.Given as goal

abbrev pub invariant-loop-number : goal.invariant-loop-number
invariant-loop-number l = record {
  waits : WaitFrom 0 l.number l.shard;
  new : HasNoneFrom l.number l.shard;
  elems : l.shard.elems ≡ l.initial.shard.elems;
}
