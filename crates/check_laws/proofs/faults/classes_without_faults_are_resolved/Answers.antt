use Rattle.check_laws.proofs.ClassesResolved.{class_there}
use Rattle.check_laws.proofs.faults.classes_without_faults_are_resolved.Goals as goal

pub returns : goal.returns
returns c = class_there
