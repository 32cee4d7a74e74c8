use Rattle.flow_meaning.proofs.Answered.{answer_same}
use Rattle.flow_meaning.proofs.Once.{claims_members, traps_same}
use Rattle.flow_meaning.proofs.Quiet.{sent_are_items, waiting_same}
use Rattle.flow_meaning.proofs.machine.a_quiescent_state_has_the_meaning.Goals as goal

pub returns : goal.returns
returns c = record {
  claims = λ P G S con sound quiet. claims_members P G con S sound quiet;
  sends = λ P G S i con sound quiet task. sent_are_items P G con S sound quiet i task;
  waits = λ P G S con sound quiet. waiting_same P G con S sound quiet;
  traps = λ P G S con sound quiet. traps_same P G con S sound quiet;
  answer = λ P G S con sound quiet. answer_same P G con S sound quiet;
}
