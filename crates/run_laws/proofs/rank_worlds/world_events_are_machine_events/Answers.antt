use Rattle.run_laws.proofs.Worlds.{event_happens, events_happen}
use Rattle.run_laws.proofs.rank_worlds.world_events_are_machine_events.Goals as goal

pub returns : goal.returns
returns c = record {
  event = λ P G r w e con sound may. event_happens P G con r w sound e may;
  events = λ P G r es w v
      con sound h. events_happen P G con r es w v sound h;
}
