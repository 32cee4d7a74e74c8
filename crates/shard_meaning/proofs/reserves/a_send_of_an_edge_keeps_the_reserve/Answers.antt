use Rattle.shard_meaning.proofs.Reserving.{reserve-send_away}
use Rattle.shard_meaning.proofs.SendReserving.{reserve-edge}
use Rattle.shard_meaning.proofs.reserves.a_send_of_an_edge_keeps_the_reserve.Goals as goal

pub returns : goal.returns
returns c = record {
  here = λ P G of k R e y z w d con sound may at updates type uses h. reserve-edge P G con of k R sound e may at y z w d updates type uses h;
  away = λ P G of k R i y may h. reserve-send_away P of k G R i may y h;
}
