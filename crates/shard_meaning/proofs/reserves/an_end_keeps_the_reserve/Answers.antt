use Rattle.std.proofs.Common.{arith}
use Rattle.flow_meaning.proofs.CallerLemmas.{claim_member}
use Rattle.shard_meaning.proofs.Reserving.{reserve-end, reserve-end_away, reserve-trap}
use Rattle.shard_meaning.proofs.reserves.an_end_keeps_the_reserve.Goals as goal

pub returns : goal.returns
returns c = record {
  end = λ P of k R t y z runs kept uses h. reserve-end P of k R t runs y z kept uses h;
  trap = λ P G of k R t y z sound runs at kept uses h.
      reserve-trap P of k R t (sound.state.claimed_have_all t
      (claim_member R.state t (omega (arith, runs, sound.claimed t)))).task at
      (omega (arith, runs, sound.claimed t)) (omega (arith, runs, sound.claimed t, sound.state.claimed_once t)) y z
      kept uses h;
  away = λ P of k R t y runs h. reserve-end_away P of k R t runs y h;
}
