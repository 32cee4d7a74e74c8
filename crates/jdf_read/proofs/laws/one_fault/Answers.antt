use Rattle.jdf_read.proofs.Once.{one_fault}
use Rattle.jdf_read.proofs.laws.one_fault.Goals as goal

pub returns : goal.returns
returns c = one_fault
