use Rattle.ptg_measure.specs.Tasks.{HasNoneFrom}
use Rattle.ptg_measure.proofs.shards.add_ready.Given as goal

abbrev pub invariant-loop-number : goal.invariant-loop-number
invariant-loop-number l = HasNoneFrom l.number l.shard
