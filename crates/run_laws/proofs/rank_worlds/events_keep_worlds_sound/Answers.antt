use Rattle.rank_core.proofs.CallerLemmas.{event_sound, opening_sound_world}
use Rattle.run_laws.proofs.Worlds.{events_sound, runs_legal}
use Rattle.run_laws.proofs.rank_worlds.events_keep_worlds_sound.Goals as goal

pub returns : goal.returns
returns c = record {
  opening = opening_sound_world;
  event = λ P G r w e con sound may. event_sound P G con r w sound e may;
  events = λ P G r es w v con sound h. events_sound P G con r es w v sound h;
  once = λ P G r w t sound. sound.state.claimed_once t;
  legal = λ P G r es w con h. runs_legal P G r es w con h;
}
