use Rattle.shard_meaning.proofs.Sends.{write_away, write_here}
use Rattle.shard_meaning.proofs.shares.a_send_of_a_write_back_changes_its_own_shard.Goals as goal

pub returns : goal.returns
returns c = record {
  here = λ P G of k R w x y z con sound may at out written kept h. write_here P G con of k R sound w may y z x at out written kept h;
  away = λ P G of k R w y con sound may away h. write_away P G con of k R sound w may y away h;
}
