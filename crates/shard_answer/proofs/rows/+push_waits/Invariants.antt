use Rattle.std.proofs.Common.{length}
use Rattle.shard_answer.proofs.rows.+push_waits.Given as goal

abbrev pub decreases-push_waits : goal.decreases-push_waits
decreases-push_waits l = length l.shards.now
