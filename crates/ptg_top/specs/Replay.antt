-- What `replay` denotes: the answer of a job whose tasks run in the order of a trace, or the first fault of the trace.
-- Carried by: `ptg_main` (`CommandDenotes`).
-- Tested by: `replay.txt`.
use Rattle.std.specs.Prelude.{◌≡◌, ◌⊎◌, ℕ, List, Option, Some, None}
use Rattle.coll_data.specs.Data.{Data}
use Rattle.plan_core.specs.declared.plan.Plan.{Plan}
use Rattle.flow_meaning.specs.Answer.{answer}
use Rattle.trace_core.specs.Faults.{IsTraceFault}
use Rattle.trace_core.specs.declared.fault.TraceFault.{TraceFault}
use Rattle.trace_core.specs.Traces.{IsSomeTrace}
use Rattle.ptg_top.specs.declared.verdict.Finding.TheVariants.{Answer}
use Rattle.ptg_top.specs.Denotation as verdicts
use Rattle.ptg_top.specs.Denotation.{Denotation}

-- The verdict of `replay` on a consistent job and a text. It is the first fault of the text or, if the text is the
-- trace of a whole order, the answer of the job.
abbrev pub IsReplayOf : List ℕ → Plan → Data → Denotation → Type 0
IsReplayOf text P given v =
    ((fault : TraceFault) × IsTraceFault P given text fault × (v ≡ verdicts.TraceRefused fault))
    ⊎ (IsSomeTrace P given text × (v ≡ verdicts.Ran P (Answer (answer P given))))

-- The verdict of `replay` on a consistent job and a trace file with this name and this content. It is that the file is
-- unread if it is missing, else the one on its text.
abbrev pub IsReplayed : List ℕ → Option (List ℕ) → Plan → Data → Denotation → Type 0
IsReplayed trace None P given v = v ≡ verdicts.Unread trace
IsReplayed trace (Some text) P given v = IsReplayOf text P given v
