use Rattle.shard_meaning.proofs.Calming.{calm_by_shards, calm_shard}
use Rattle.shard_meaning.proofs.calm.shards_without_work_are_calm.Goals as goal

pub returns : goal.returns
returns c = record {
  calm = λ P G of R n shards within shares idle. calm_by_shards P G of R n within shards shares idle;
  idle = λ P G of k R y h calm. calm_shard P G of k R y h calm;
}
