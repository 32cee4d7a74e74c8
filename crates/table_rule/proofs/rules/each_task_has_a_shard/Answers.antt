use Rattle.shard_meaning.proofs.CallerLemmas.{shard_below}
use Rattle.table_rule.proofs.rules.each_task_has_a_shard.Goals as goal

pub returns : goal.returns
returns c = λ P n t some_shards. shard_below P n t some_shards
