use Rattle.shard_meaning.proofs.Reserving.{reserve-claim, reserve-claim_away}
use Rattle.shard_meaning.proofs.reserves.a_claim_keeps_the_reserve.Goals as goal

pub returns : goal.returns
returns c = record {
  here = λ P of k R t y z tiles may takes uses h. reserve-claim P of k R t may y z tiles takes uses h;
  away = λ P of k R t y may h. reserve-claim_away P of k R t may y h;
}
