use Rattle.dep_table.proofs.NeedsSteps.{AreReservedBefore}
use Rattle.dep_table.proofs.preloaded.reserve_all.Given as goal

abbrev pub invariant-loop-k : goal.invariant-loop-k
invariant-loop-k l = AreReservedBefore l.k l.needs l.initial.shards.items l.shards.items
