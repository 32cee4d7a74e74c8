use Rattle.std.proofs.Common.{length}
use Rattle.shard_answer.proofs.rows.+ended_of.Given as goal

abbrev pub decreases-ended_of : goal.decreases-ended_of
decreases-ended_of l = length l.shards.now
