use Rattle.flow_meaning.proofs.Events.{ends_so, has_inputs, it_ends}
use Rattle.flow_meaning.proofs.machine.tasks_have_their_inputs.Goals as goal

pub returns : goal.returns
returns c = record {
  inputs = λ P G S t con sound fed. has_inputs P G con S sound t fed;
  end = λ P G S t con sound fed. ends_so P G con S sound t fed;
  runs = λ P G S t con sound fed. it_ends P G con S sound t fed;
}
