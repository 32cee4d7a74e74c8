use Rattle.std.proofs.Common.{length}
use Rattle.shard_answer.proofs.rows.+entries_are_distinct.Given as goal

abbrev pub decreases-entries_are_distinct : goal.decreases-entries_are_distinct
decreases-entries_are_distinct l = length l.shards.now
