-- The verdict of a run of the program as a value, whoever ran the job and owns its plan.
-- Carried by: `ptg_main` (`Prints`, `IsCut`).
-- Tested by: all rows.
use Rattle.std.specs.Prelude.{ℕ, List}
use Rattle.plan_core.specs.declared.plan.Plan.{Plan}
use Rattle.job_stages.specs.declared.verdict.JobVerdict.{JobVerdict}
use Rattle.trace_core.specs.declared.fault.TraceFault.{TraceFault}
use Rattle.ptg_top.specs.declared.verdict.Finding.{Finding}
use Rattle.ptg_top.specs.declared.verdict.RanBy.{RanBy}
use Rattle.ptg_top.specs.declared.verdict.RanBy.TheVariants.{Table, OneThread}
use Rattle.ptg_top.specs.declared.verdict.Verdict.{Verdict}
use Rattle.ptg_top.specs.declared.verdict.Verdict.TheVariants as verdicts

-- Usage: the arguments form no command. Unread: the file of this name could not be read. Job: a refusal, or a job that
-- was found consistent. Ran: the finding from the answer of a job with this plan. Spelling: the canonical spelling of a
-- JDF. PreloadTooLarge: the preload that was asked for is too large. TraceRefused: the first fault of the trace.
pub data Denotation : Type 0 where
  Usage : Denotation
  Unread : List ℕ → Denotation
  Job : JobVerdict → Denotation
  Ran : Plan → Finding → Denotation
  Spelling : List ℕ → Denotation
  PreloadTooLarge : Denotation
  TraceRefused : TraceFault → Denotation

-- the plan of the job that was run
abbrev pub plan_of : RanBy → Plan
plan_of (Table receipt) = receipt.plan
plan_of (OneThread matched) = matched

-- the denotation of a verdict
abbrev pub denoted : Verdict → Denotation
denoted verdicts.Usage = Usage
denoted (verdicts.Unread name) = Unread name
denoted (verdicts.Job job) = Job job
denoted (verdicts.Ran by finding) = Ran (plan_of by) finding
denoted (verdicts.Spelling text) = Spelling text
denoted verdicts.PreloadTooLarge = PreloadTooLarge
denoted (verdicts.TraceRefused fault) = TraceRefused fault
