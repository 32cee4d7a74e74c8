use Rattle.dep_shard.proofs.Searches.{IsBestBelow}
use Rattle.dep_shard.proofs.queue.best_by_walk.Given as goal

abbrev pub invariant-loop-index : goal.invariant-loop-index
invariant-loop-index l = IsBestBelow l.table.entries l.index l.best
