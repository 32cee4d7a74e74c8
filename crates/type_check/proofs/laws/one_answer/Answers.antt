use Rattle.type_check.proofs.Unique.{one_first_fault}
use Rattle.type_check.proofs.Plans.{one_plan, a_plan_has_no_fault}
use Rattle.type_check.proofs.laws.one_answer.Goals as goal

pub returns-clause-plan : goal.returns-clause-plan
returns-clause-plan c = one_plan

pub returns-clause-fault : goal.returns-clause-fault
returns-clause-fault c = one_first_fault

pub returns-clause-either : goal.returns-clause-either
returns-clause-either c = a_plan_has_no_fault
