use Rattle.shard_meaning.proofs.Ends.{unchanged}
use Rattle.shard_meaning.proofs.Reserving.{reserve-unchanged}
use Rattle.shard_meaning.proofs.shares.nothing_changes_without_an_event.Goals as goal

pub returns : goal.returns
returns c = record {
  share = λ P G of k R y z same h. unchanged P G of k R y z same h;
  reserve = λ P of k R y z same uses h. reserve-unchanged P of k R y z same.entries uses h;
}
