-- How a verb continues from a consistent job, and the answer that `run` gives.
-- Carried by: `ptg_main` (`CommandDenotes`).
-- Tested by: `answers.txt`, `two_faults.txt`.
use Rattle.std.specs.Prelude.{◌≡◌, if◌then◌else◌}
use Rattle.coll_data.specs.Data.{Data}
use Rattle.plan_core.specs.declared.plan.Plan.{Plan}
use Rattle.flow_meaning.specs.Answer.{answer}
use Rattle.job_stages.specs.declared.verdict.JobVerdict.TheVariants as jobs
use Rattle.run_pool.specs.declared.settings.Settings.{Settings}
use Rattle.run_pool.specs.Runs.{is_too_large}
use Rattle.ptg_top.specs.declared.verdict.Finding.TheVariants.{Answer}
use Rattle.ptg_top.specs.Denotation as verdicts
use Rattle.ptg_top.specs.Denotation.{Denotation}

-- the verdict of a verb from that of `check`: what the verb makes of a consistent job with its data, or the refusal as
-- it is
abbrev pub OnConsistent : (Plan → Data → Denotation → Type 0) → Denotation → Denotation → Type 0
OnConsistent Verb (verdicts.Job (jobs.Consistent P given)) v = Verb P given v
OnConsistent Verb checked v = v ≡ checked

-- the verdict of a verb that continues after `check`; `Checked` holds for the verdict of `check`
abbrev pub GoesOnFrom : (Denotation → Type 0) → (Plan → Data → Denotation → Type 0) → Denotation → Type 0
GoesOnFrom Checked Verb v = (checked : Denotation) × Checked checked × OnConsistent Verb checked v

-- the verdict is a refusal of `check`: any of its verdicts but a consistent job
abbrev pub IsRefusedByCheck : Denotation → Type 0
IsRefusedByCheck (verdicts.Unread name) = Unit {0}
IsRefusedByCheck (verdicts.Job (jobs.Consistent P given)) = ⊥
IsRefusedByCheck (verdicts.Job job) = Unit {0}
IsRefusedByCheck v = ⊥

-- the verdict of `run` on a consistent job: that its preload is too large, or else its answer
abbrev pub IsAnswer : Settings → Plan → Data → Denotation → Type 0
IsAnswer settings P given v =
    v ≡ (if is_too_large settings P then verdicts.PreloadTooLarge else verdicts.Ran P (Answer (answer P given)))
