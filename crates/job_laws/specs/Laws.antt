-- Two texts, and a JDF with its data, always denote a verdict; and what a verdict does not depend on.
use Rattle.std.specs.Prelude.{ℕ, List, ◌≡◌}
use Rattle.jdf_tree.specs.TreeLimits.{IsWithinLimits}
use Rattle.coll_data.specs.WellMade as well_data
use Rattle.type_rules.specs.Names.{Job}
use Rattle.job_stages.specs.declared.verdict.JobVerdict.{JobVerdict}
use Rattle.job_stages.specs.Verdict.{JobDenotes, TextsDenote, JdfTextDenotes}
use Rattle.coll_data.specs.Data.{Data}
use Rattle.plan_core.specs.declared.plan.Plan.{Plan}
use Rattle.plan_data.specs.Fit.{DataFit}
use Rattle.job_stages.specs.declared.verdict.JobVerdict.TheVariants as verdicts

-- A JDF within the limits of its text denotes a verdict with well made data.
abbrev pub SomeVerdictOfJob : Type 0
SomeVerdictOfJob =
    (job : Job) → IsWithinLimits job.jdf → well_data.IsWellMade job.given → (v : JobVerdict) × JobDenotes job v

-- Two texts denote a verdict.
abbrev pub SomeVerdict : Type 0
SomeVerdict = (jdf_text data_text : List ℕ) → (v : JobVerdict) × TextsDenote jdf_text data_text v

-- A fault of the JDF's text is the verdict, whatever the data's text is.
abbrev pub JdfIsJudgedAlone : Type 0
JdfIsJudgedAlone =
    (jdf_text data_text : List ℕ) (v w : JobVerdict) → JdfTextDenotes jdf_text v → TextsDenote jdf_text data_text w
    → w ≡ v

-- If two texts denote a consistent plan with its data, the data fit the plan.
abbrev pub DataFitPlan : Type 0
DataFitPlan =
    (jdf_text data_text : List ℕ) (P : Plan) (given : Data)
    → TextsDenote jdf_text data_text (verdicts.Consistent P given) → DataFit P given
