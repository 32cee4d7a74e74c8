-- What `demo` denotes: the summary of the made job.
-- Carried by: `ptg_main` (`CommandDenotes`).
-- Tested by: `demo.txt`, `demo_largest.txt`.
use Rattle.std.specs.Prelude.{◌≡◌, ℕ}
use Rattle.coll_data.specs.Data.{Data}
use Rattle.coll_data.specs.Sums.{all_elements, sum_of}
use Rattle.plan_core.specs.declared.plan.Plan.{Plan}
use Rattle.flow_meaning.specs.Answer.{answer}
use Rattle.flow_meaning.specs.declared.outcome.Outcome.{Outcome}
use Rattle.flow_meaning.specs.declared.outcome.Outcome.TheVariants.{Complete}
use Rattle.job_gen.specs.Job.{data_text, jdf_text}
use Rattle.ptg_top.specs.declared.verdict.Finding.{Finding}
use Rattle.ptg_top.specs.declared.verdict.Finding.TheVariants.{Answer, Summary}
use Rattle.ptg_top.specs.Denotation as verdicts
use Rattle.ptg_top.specs.Denotation.{Denotation}
use Rattle.ptg_top.specs.JobFiles.{JobTextsDenote}

-- The finding from the answer of the made job of n rows of tiles. If the answer is complete, it is the number of its
-- tasks and the sum of all elements of all collections; else it is the answer itself.
abbrev pub summed : ℕ → Outcome → Finding
summed n (Complete count final) = Summary (record { rows = n; tasks = count; sum = sum_of (all_elements final.colls) })
summed n outcome = Answer outcome

-- the verdict of `demo` on a consistent job
abbrev pub IsSummary : ℕ → Plan → Data → Denotation → Type 0
IsSummary n P given v = v ≡ verdicts.Ran P (summed n (answer P given))

-- the two texts of the made job of n rows of tiles denote this verdict of `check`
abbrev pub MadeTextsDenote : ℕ → Denotation → Type 0
MadeTextsDenote n v = JobTextsDenote jdf_text (data_text n) v
