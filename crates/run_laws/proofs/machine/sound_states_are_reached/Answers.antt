use Rattle.run_laws.proofs.Reached.{reached}
use Rattle.run_laws.proofs.machine.sound_states_are_reached.Goals as goal

pub returns : goal.returns
returns c = λ P G S con sound. reached P G con S sound
