use Rattle.data_laws.proofs.Faults.{fault_is_first, is_fault}
use Rattle.data_laws.proofs.laws.faults_are_first.Goals as goal

pub returns : goal.returns
returns c = λ text fault. (fault_is_first text fault, is_fault text fault)
