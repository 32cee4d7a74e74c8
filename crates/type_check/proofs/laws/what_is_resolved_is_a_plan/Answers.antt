use Rattle.type_check.proofs.WellPlans.{well_plan}
use Rattle.type_check.proofs.Plans.{plan_there}
use Rattle.type_check.proofs.laws.what_is_resolved_is_a_plan.Goals as goal

pub returns-clause-well_made : goal.returns-clause-well_made
returns-clause-well_made c = well_plan

pub returns-clause-plan : goal.returns-clause-plan
returns-clause-plan c = plan_there
