use Rattle.flow_meaning.proofs.Events.{event_sound, happen_sound, opening_sound}
use Rattle.flow_meaning.proofs.machine.events_keep_states_sound.Goals as goal

pub returns : goal.returns
returns c = record {
  opening = opening_sound;
  event = λ P G S e con sound may. event_sound P G con S sound e may;
  events = λ P G es S T con sound h. happen_sound P G con es S T sound h;
}
