use Rattle.std.proofs.Common.{length}
use Rattle.shard_answer.proofs.rows.+push_traps.Given as goal

abbrev pub decreases-push_traps : goal.decreases-push_traps
decreases-push_traps l = length l.shards.now
