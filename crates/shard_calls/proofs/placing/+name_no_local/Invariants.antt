use Rattle.std.proofs.Common.{length}
use Rattle.shard_calls.proofs.placing.+name_no_local.Given as goal

abbrev pub decreases-name_no_local : goal.decreases-name_no_local
decreases-name_no_local l = length l.indices.now
