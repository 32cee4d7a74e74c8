-- What is read from a text as a trace of a job.
-- Carried by: `read_rows`, `read_trace`.
-- Tested by: `trace_faults.txt`, `trace_lists.txt`.
use Rattle.std.specs.Prelude.{◌≡◌, ◌⊎◌, ◌+◌, ◌<◌, ◌≤◌, ℕ, List, Option, Some, None, length, option_map}
use Rattle.std.specs.List.{AllByRecursion}
use Rattle.ptg_base.specs.Limits.{most_bytes}
use Rattle.ptg_base.specs.Lists.{HasNoRepeats}
use Rattle.ptg_base.specs.Task.{Task}
use Rattle.plan_core.specs.declared.plan.Plan.{Plan}
use Rattle.dep_iter.specs.Tasks.{IsTask}
use Rattle.trace_core.specs.declared.fault.TraceCode.{TraceCode}
use Rattle.trace_core.specs.declared.fault.TraceCode.TheVariants.{TooLong, BadTrace}
use Rattle.trace_core.specs.declared.fault.TraceFault.{TraceFault}
use Rattle.trace_core.specs.Naming.{AreRowsBefore, AreRowsOf}
use Rattle.trace_core.specs.Spelling.{IsBadRow, IsWellSpelled}
use Rattle.trace_core.specs.Text.{TraceRow, trace_text}

-- the fault of a text that is longer than 16 MiB
abbrev pub too_long : TraceFault
too_long = record { row = 0; code = TooLong }

-- a text is too long, or a row of it is not well spelled, and this is its fault
pub data IsSpellingFault (text : List ℕ) (f : TraceFault) : Type 0 where
  over_length : most_bytes < length text → f ≡ too_long → IsSpellingFault text f
  of_a_row : length text ≤ most_bytes → IsBadRow text f.row → f.code ≡ BadTrace → IsSpellingFault text f

-- the fault with this code of the row after those of these tasks
abbrev pub fault_after : List Task → Option TraceCode → Option TraceFault
fault_after ts code = option_map (λ c. record { row = length ts + 2; code = c }) code

-- these tasks are those of all rows, or of the rows before one with this fault
abbrev pub IsReadAs : Plan → List TraceRow → List Task → Option TraceFault → Type 0
IsReadAs P es ts None = AreRowsOf P es ts
IsReadAs P es ts (Some f) = AreRowsBefore P es ts f.code × (f.row ≡ length ts + 2)

-- what is read from a text that is well spelled
pub record IsReading (P : Plan) (text : List ℕ) (ts : List Task) (fault : Option TraceFault) : Type 0 where
  pub at_most : length text ≤ most_bytes
  pub entries : List TraceRow
  pub spelled : IsWellSpelled text entries
  pub read : IsReadAs P entries ts fault

-- the first fault of a text as a list of tasks of a job that are different
abbrev pub IsReadFault : Plan → List ℕ → TraceFault → Type 0
IsReadFault P text f = IsSpellingFault text f ⊎ ((ts : List Task) × IsReading P text ts (Some f))

-- a text within 16 MiB is that of these tasks of a job, which are different
pub record IsListOf (P : Plan) (text : List ℕ) (ts : List Task) : Type 0 where
  pub at_most : length text ≤ most_bytes
  pub is_text : text ≡ trace_text P ts
  pub tasks : AllByRecursion (IsTask P) ts
  pub once : HasNoRepeats ts
