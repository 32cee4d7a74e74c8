use Rattle.check_laws.proofs.ClassesResolved.{plan_or_first_fault}
use Rattle.check_laws.proofs.faults.a_job_has_a_plan_or_a_fault.Goals as goal

pub returns : goal.returns
returns c = plan_or_first_fault
