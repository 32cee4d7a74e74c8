use Rattle.flow_meaning.specs.Machine.{opening_state}
use Rattle.flow_meaning.proofs.CallerLemmas.{opening_sound}
use Rattle.run_laws.proofs.Orders.{happen_legal}
use Rattle.run_laws.proofs.machine.claims_are_a_legal_order.Goals as goal

pub returns : goal.returns
returns c = λ P G es S con h. happen_legal P G con es opening_state S (opening_sound P G) tt h
