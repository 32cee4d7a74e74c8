use Rattle.trace_core.proofs.OneFault.{one_fault}
use Rattle.trace_core.proofs.laws.a_text_has_one_first_fault.Goals as goal

pub returns : goal.returns
returns c = one_fault
