-- The stages that the text of a JDF and the text of its data reach: a job, the values of all its globals, a plan.
-- Carried by: `judge_texts`, `judge_data`; laws `one_verdict`, `job_laws::every_job_has_a_verdict`.
-- Tested by: `check.txt`, `check_codes.txt`.
use Rattle.std.specs.Prelude.{◌≡◌, ℕ, List, true, false}
use Rattle.jdf_tree.specs.Jdf.{IsJdf}
use Rattle.type_rules.specs.Names.{Job}
use Rattle.type_check.specs.Given.{is_missing}
use Rattle.type_check.specs.Plans.{IsPlan}
use Rattle.plan_core.specs.declared.plan.Plan.{Plan}
use Rattle.job_stages.specs.DataText.{IsData}

-- The first text is that of the job's JDF, and the second one spells its data.
pub record HasJob (jdf_text data_text : List ℕ) (job : Job) : Type 0 where
  pub tree : IsJdf jdf_text job.jdf
  pub spelled : IsData data_text job.given

-- some global of the JDF is neither an integer nor a collection of the data
abbrev pub HasMissingGlobal : Job → Type 0
HasMissingGlobal job = is_missing job.jdf job.given ≡ true

-- the data have each global of the JDF
abbrev pub HasGlobals : Job → Type 0
HasGlobals job = is_missing job.jdf job.given ≡ false

-- The data have each global of the JDF, and with all names resolved this is the plan.
pub record HasPlan (job : Job) (P : Plan) : Type 0 where
  pub globals : HasGlobals job
  pub plan : IsPlan job P
