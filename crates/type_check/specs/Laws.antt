-- What follows from the definitions of the plan and of the first fault.
use Rattle.std.specs.Prelude.{◌≡◌, List, map}
use Rattle.jdf_tree.specs.TreeLimits.{IsWithinLimits}
use Rattle.term_core.specs.declared.space.ClassSpace.{ClassSpace}
use Rattle.coll_data.specs.WellMade as well_data
use Rattle.coll_data.specs.WellMade.{elements_by_type}
use Rattle.plan_core.specs.WellMade.{IsWellMade}
use Rattle.plan_core.specs.declared.class.ClassPlan.{ClassPlan}
use Rattle.plan_core.specs.declared.plan.Plan.{Plan}
use Rattle.plan_data.specs.Fit.{shape_of}
use Rattle.type_rules.specs.TreesAndFaults.{JdfFault}
use Rattle.type_rules.specs.Names.{Job}
use Rattle.type_check.specs.Check.{AreResolved, IsFirstFault}
use Rattle.type_check.specs.Plans.{IsPlan}

-- A JDF and its data have at most one first fault.
abbrev pub OneFirstFault : Type 0
OneFirstFault = (job : Job) (f g : JdfFault) → IsFirstFault job f → IsFirstFault job g → f ≡ g

-- If a JDF within the limits resolves with well made data, its classes, their spaces and the shapes of the data fit one
-- another.
abbrev pub ResolvedIsWellMade : Type 0
ResolvedIsWellMade =
    (job : Job) (classes : List ClassPlan) (spaces : List ClassSpace) → IsWithinLimits job.jdf
    → well_data.IsWellMade job.given → AreResolved job classes spaces
    → IsWellMade classes spaces (map shape_of job.given.colls) (elements_by_type job.given)

-- If the classes of a JDF within the limits resolve with well made data, the JDF and its data have a plan.
abbrev pub ResolvedIsAPlan : Type 0
ResolvedIsAPlan =
    (job : Job) (classes : List ClassPlan) (spaces : List ClassSpace) → IsWithinLimits job.jdf
    → well_data.IsWellMade job.given → AreResolved job classes spaces → (p : Plan) × IsPlan job p

-- A JDF and its data have at most one plan.
abbrev pub OnePlan : Type 0
OnePlan = (job : Job) (p q : Plan) → IsPlan job p → IsPlan job q → p ≡ q

-- A JDF and data that have a plan have no fault.
abbrev pub PlanHasNoFault : Type 0
PlanHasNoFault = (job : Job) (p : Plan) (f : JdfFault) → IsPlan job p → IsFirstFault job f → ⊥
