-- The first fault of a text as a trace of a job. It is that of the text's length, else of its spelling, else of the
-- first row whose task may not run then, else that a task which runs has no row.
-- Carried by: `trace_replay::replay`, `trace_replay::judge_trace`; laws `a_text_has_one_first_fault`,
-- `run_laws::the_text_of_a_whole_order_has_no_fault`.
-- Tested by: `replay.txt`.
use Rattle.std.specs.Prelude.{◌≡◌, ◌⊎◌, ◌+◌, ◌≤◌, ℕ, List, [], ◌∷◌, ◌++◌, IsFalse, length, map}
use Rattle.ptg_base.specs.Limits.{most_bytes}
use Rattle.ptg_base.specs.Lists.{IsIn}
use Rattle.ptg_base.specs.Task.{Task}
use Rattle.ptg_base.specs.declared.edge.Edge.{Edge}
use Rattle.plan_core.specs.declared.plan.Plan.{Plan}
use Rattle.coll_data.specs.Data.{Data}
use Rattle.dep_iter.specs.Edges.{in_edges}
use Rattle.flow_meaning.specs.Answer.{ran}
use Rattle.flow_meaning.specs.Backward.{ended}
use Rattle.flow_meaning.specs.Ending.{has_outputs}
use Rattle.trace_core.specs.declared.fault.TraceCode.{TraceCode}
use Rattle.trace_core.specs.declared.fault.TraceCode.TheVariants.{TooLong, BadTrace, UnknownTask, RanTwice, TooEarly, Unfinished}
use Rattle.trace_core.specs.declared.fault.TraceFault.{TraceFault}
use Rattle.trace_core.specs.Naming.{IsNamingFault, Names}
use Rattle.trace_core.specs.Orders.{MayAllRunAfter}
use Rattle.trace_core.specs.Reading.{IsSpellingFault}
use Rattle.trace_core.specs.Spelling.{IsWellSpelled}
use Rattle.trace_core.specs.Text.{TraceRow, row_of}

-- the source of an edge is none of these tasks, or traps
abbrev pub IsMissing : Plan → Data → List Task → Edge → Type 0
IsMissing P G before e = (IsIn e.from before → ⊥) ⊎ IsFalse (has_outputs (ended P G e.from))

-- the code of a row whose task may not run after those of the rows before it
abbrev pub IsRowFault : Plan → Data → List Task → TraceRow → TraceCode → Type 0
IsRowFault P G before e UnknownTask = IsNamingFault P before e UnknownTask
IsRowFault P G before e RanTwice = IsNamingFault P before e RanTwice
IsRowFault P G before e TooEarly =
    (t : Task) × Names P e t × (IsIn t before → ⊥) × (x : Edge) × IsIn x (in_edges P t) × IsMissing P G before x
IsRowFault P G before e TooLong = ⊥
IsRowFault P G before e BadTrace = ⊥
IsRowFault P G before e Unfinished = ⊥

-- the rows before a row are those of tasks that may run in their order, and the fault is that of this row
pub record IsFaultOfRow (P : Plan) (G : Data) (es : List TraceRow) (f : TraceFault) : Type 0 where
  pub before : List Task
  pub failed : TraceRow
  pub later : List TraceRow
  pub split : es ≡ map (row_of P) before ++ failed ∷ later
  pub may_run : MayAllRunAfter P G [] before
  pub code : IsRowFault P G before failed f.code
  pub row : f.row ≡ length before + 2

-- all rows are those of tasks that may run in their order, and a task that runs has none
pub record IsUnfinished (P : Plan) (G : Data) (es : List TraceRow) (f : TraceFault) : Type 0 where
  pub tasks : List Task
  pub all : es ≡ map (row_of P) tasks
  pub may_run : MayAllRunAfter P G [] tasks
  pub missing : (t : Task) × IsIn t (ran P G) × (IsIn t tasks → ⊥)
  pub code : f.code ≡ Unfinished
  pub row : f.row ≡ length es + 2

-- the first fault of a text: of its length or its spelling, else of its rows
pub data IsTraceFault (P : Plan) (G : Data) (text : List ℕ) (f : TraceFault) : Type 0 where
  of_spelling : IsSpellingFault text f → IsTraceFault P G text f
  of_tasks : (es : List TraceRow) → length text ≤ most_bytes → IsWellSpelled text es
      → IsFaultOfRow P G es f ⊎ IsUnfinished P G es f → IsTraceFault P G text f
