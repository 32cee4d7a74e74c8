-- A verdict whose data fit its plan, so that it may be run.
-- Carried by: `judge_texts`.
-- Tested by: `check.txt`, `examples.txt`.
use Rattle.plan_data.specs.Fit.{DataFit}
use Rattle.job_stages.specs.declared.verdict.JobVerdict.{JobVerdict}
use Rattle.job_stages.specs.declared.verdict.JobVerdict.TheVariants.{Jdf, Data as DataRefused, Inconsistent, Consistent}

-- The data of a consistent plan fit it.
abbrev pub HasFittingData : JobVerdict → Type 0
HasFittingData (Jdf fault) = Unit {0}
HasFittingData (DataRefused fault) = Unit {0}
HasFittingData (Inconsistent P fault) = Unit {0}
HasFittingData (Consistent P given) = DataFit P given
