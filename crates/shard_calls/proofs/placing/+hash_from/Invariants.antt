use Rattle.std.proofs.Common.{length}
use Rattle.shard_calls.proofs.placing.+hash_from.Given as goal

abbrev pub decreases-hash_from : goal.decreases-hash_from
decreases-hash_from l = length l.params.now
