-- The plan of a JDF with its data. Source: PaRSEC 2013 and the JDF documentation.
-- Carried by: `check`; laws `one_answer`, `check_laws::a_job_has_a_plan_or_a_fault`.
-- Tested by: `check.txt`, `edges.txt`.
use Rattle.std.specs.Prelude.{Result, Ok, Err}
use Rattle.ptg_base.specs.declared.refusal.Refusal.{Refusal}
use Rattle.ptg_base.specs.declared.refusal.Refusal.TheVariants.{Fault, OutOfMemory}
use Rattle.plan_core.specs.declared.plan.Plan.{Plan}
use Rattle.plan_data.specs.Fit.{DataFit}
use Rattle.type_rules.specs.TreesAndFaults.{JdfFault}
use Rattle.type_rules.specs.Names.{Job}
use Rattle.type_check.specs.Check.{AreResolved, IsFirstFault}

-- The plan of a JDF and its data: it has the resolved classes with their spaces, and the data fit it.
pub record IsPlan (job : Job) (plan : Plan) : Type 0 where
  pub resolved : AreResolved job plan.classes plan.spaces
  pub fit : DataFit plan job.given

-- The result of the type check: the plan, the first fault, or out of memory.
abbrev pub ReturnsPlan : Job → Result Plan (Refusal JdfFault) → Type 0
ReturnsPlan job (Ok plan) = IsPlan job plan
ReturnsPlan job (Err (Fault f)) = IsFirstFault job f
ReturnsPlan job (Err OutOfMemory) = Unit {0}
