use Rattle.run_laws.proofs.Moments.{claim_moment, end_moment, opening_moment_sound, send_moment}
use Rattle.run_laws.proofs.shards.events_keep_moments_sound.Goals as goal

pub returns : goal.returns
returns c = record {
  opening = opening_moment_sound;
  claim = λ P G R t con sound may. claim_moment P G con R sound t may;
  send = λ P G R i con sound may. send_moment P G con R sound i may;
  end = λ P G R t sound runs. end_moment P G R sound t runs;
}
