use Rattle.flow_meaning.proofs.Rest.{rests}
use Rattle.flow_meaning.proofs.machine.quiescent_states_are_at_rest.Goals as goal

pub returns : goal.returns
returns c = λ P G S con sound. rests P G con S sound
