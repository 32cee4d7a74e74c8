use Rattle.chain_cert.proofs.Orders.{from_outside}
use Rattle.chain_cert.proofs.laws.a_task_outside_has_a_source_outside.Goals as goal

pub returns : goal.returns
returns c = λ P ts t g job no. from_outside P ts g t job no
