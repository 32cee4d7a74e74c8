use Rattle.shard_meaning.proofs.Reserving.{reserve-send_away}
use Rattle.shard_meaning.proofs.SendReserving.{reserve-write}
use Rattle.shard_meaning.proofs.reserves.a_send_of_a_write_back_keeps_the_reserve.Goals as goal

pub returns : goal.returns
returns c = record {
  here = λ P G of k R w y z d con sound may at kept type uses h. reserve-write P G con of k R sound w may at y z d kept type uses h;
  away = λ P G of k R i y may h. reserve-send_away P of k G R i may y h;
}
