use Rattle.std.proofs.Common.{arith}
use Rattle.flow_meaning.proofs.CallerLemmas.{claim_member}
use Rattle.shard_meaning.proofs.Reserving.{spare-trap}
use Rattle.shard_meaning.proofs.SendReserving.{spare-edge_tile, spare-entry, spare-write, spare-write_tile}
use Rattle.shard_meaning.proofs.reserves.the_reserve_is_enough.Goals as goal

pub returns : goal.returns
returns c = record {
  entry = λ P G of k R e y con sound may at h none. spare-entry P G con of k R sound e may at y h none;
  edge_tile = λ P G of k R e y d x con sound may at h type some. spare-edge_tile P G con of k R sound e may at y d x h type some;
  write = λ P G of k R w y con sound may at h. spare-write P G con of k R sound w may at y h;
  write_tile = λ P G of k R w y d con sound may at h type. spare-write_tile P G con of k R sound w may at y d h type;
  trap = λ P G of k R t y sound runs at h.
      spare-trap P of k R t (sound.state.claimed_have_all t (claim_member R.state t
      (omega (arith, runs, sound.claimed t)))).task at (omega (arith, runs, sound.claimed t))
      (omega (arith, runs, sound.claimed t, sound.state.claimed_once t)) y h;
}
