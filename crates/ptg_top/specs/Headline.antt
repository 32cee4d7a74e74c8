-- What is printed for a verdict, and what a run of the program promises: exact output, a prefix after a write fault,
-- silence, completeness, a cause of a read fault.
-- Carried by: `ptg_main`.
-- Tested by: all rows, `unread.txt`, `unwritten.txt`.
use Rattle.std.specs.Prelude.{◌≡◌, ℕ, List, ◌++◌}
use Rattle.report_text.specs.Puts.{HasPrefix}
use Rattle.report_text.specs.Refusal.{preload_line, refusal_text, unread_line, usage_line}
use Rattle.report_text.specs.declared.refusal_line.Line.TheVariants as line_of
use Rattle.ptg_top.specs.declared.status.Status.{Status}
use Rattle.ptg_top.specs.declared.status.Status.TheVariants.{Complete, Usage, JdfRefused, DataRefused, Inconsistent, Trapped, Stalled, ReadFault}
use Rattle.ptg_top.specs.declared.status.Status.TheVariants.{WriteFault, OutOfMemory, PreloadTooLarge, TraceRefused}
use Rattle.ptg_top.specs.Denotation as verdicts
use Rattle.ptg_top.specs.Denotation.{Denotation}
use Rattle.ptg_top.specs.Findings.{finding_text, status_of_finding}
use Rattle.ptg_top.specs.Operands.{Load, Operands, Read, in_loads}
use Rattle.ptg_top.specs.Meaning.{Denotes}
use Rattle.ptg_top.specs.Reports.{HasLoaded, IsVerdictOnWords}
use Rattle.ptg_top.specs.JobText.{job_text, status_of_job}

-- what is printed for a verdict
abbrev pub text_of : Denotation → List ℕ
text_of verdicts.Usage = usage_line
text_of (verdicts.Unread name) = unread_line name
text_of (verdicts.Job job) = job_text job
text_of (verdicts.Ran P finding) = finding_text P finding
text_of (verdicts.Spelling text) = text
text_of verdicts.PreloadTooLarge = preload_line
text_of (verdicts.TraceRefused fault) = refusal_text (line_of.Trace fault)

-- the status of a verdict
abbrev pub status_of : Denotation → Status
status_of verdicts.Usage = Usage
status_of (verdicts.Unread name) = ReadFault
status_of (verdicts.Job job) = status_of_job job
status_of (verdicts.Ran P finding) = status_of_finding finding
status_of (verdicts.Spelling text) = Complete
status_of verdicts.PreloadTooLarge = PreloadTooLarge
status_of (verdicts.TraceRefused fault) = TraceRefused

-- the status is that of a verdict: no failed read, no failed write and no lack of memory took its place
abbrev pub IsExact : Status → Type 0
IsExact Complete = Unit {0}
IsExact Usage = Unit {0}
IsExact JdfRefused = Unit {0}
IsExact DataRefused = Unit {0}
IsExact Inconsistent = Unit {0}
IsExact Trapped = Unit {0}
IsExact Stalled = Unit {0}
IsExact ReadFault = ⊥
IsExact WriteFault = ⊥
IsExact OutOfMemory = ⊥
IsExact PreloadTooLarge = Unit {0}
IsExact TraceRefused = Unit {0}

-- The sink grew by exactly the text of a verdict that the arguments and the operands denote, and this is its status.
-- They denote at most one verdict, except for traces.
pub record Prints (words : List (List ℕ)) (operands : Operands) (before after : List ℕ) (status : Status)
    : Type 0 where
  pub verdict : Denotation
  pub denoted : Denotes words operands verdict
  pub text : after ≡ before ++ text_of verdict
  pub ends : status ≡ status_of verdict

-- Exactly these loads were made, of the first file operands of the command, in order. What was printed, with its
-- status, is what the arguments denote if these operands hold what was loaded and the others count as missing.
abbrev pub PrintsLoaded : List (List ℕ) → List Read → List Read → List ℕ → List ℕ → Status → Type 0
PrintsLoaded words old new before after status =
    (loads : List Load) × HasLoaded words old new loads × Prints words (in_loads loads) before after status

-- a failed write cut the text of a verdict short: the verdict on what was loaded, or that on a file that could not be
-- read
pub record IsCut (words : List (List ℕ)) (old new : List Read) (failed failed_since : List ℕ → ℕ)
    (before after : List ℕ) : Type 0 where
  pub verdict : Denotation
  pub due : IsVerdictOnWords words old new failed failed_since verdict
  pub prefix : HasPrefix before after (text_of verdict)
