use Rattle.shard_meaning.proofs.Sends.{edge_away, edge_here}
use Rattle.shard_meaning.proofs.shares.a_send_of_an_edge_changes_its_own_shard.Goals as goal

pub returns : goal.returns
returns c = record {
  here = λ P G of k R e y z con sound may at updates kept h. edge_here P G con of k R sound e may y z at updates kept h;
  away = λ P G of k R e y con sound may away h. edge_away P G con of k R sound e may y away h;
}
