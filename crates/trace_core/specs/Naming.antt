-- Which task a row names, and how far the rows of a text name new tasks.
-- Carried by: `read_rows`, `read_trace`.
-- Tested by: `trace_faults.txt`, `trace_lists.txt`.
use Rattle.std.specs.Prelude.{◌≡◌, ◌+◌, ℕ, List, ◌∷◌, ◌++◌, Some, map, slice_get}
use Rattle.std.specs.List.{AllByRecursion}
use Rattle.ptg_base.specs.Lists.{HasNoRepeats, IsIn}
use Rattle.ptg_base.specs.Task.{Task}
use Rattle.plan_core.specs.declared.class.ClassPlan.{ClassPlan}
use Rattle.plan_core.specs.declared.plan.Plan.{Plan}
use Rattle.dep_iter.specs.Tasks.{IsTask}
use Rattle.trace_core.specs.declared.fault.TraceCode.{TraceCode}
use Rattle.trace_core.specs.declared.fault.TraceCode.TheVariants.{TooLong, BadTrace, UnknownTask, RanTwice, TooEarly, Unfinished}
use Rattle.trace_core.specs.Text.{TraceRow, row_of}

-- the class with this number has this name
abbrev pub IsNamed : List ClassPlan → List ℕ → ℕ → Type 0
IsNamed classes name n = (c : ClassPlan) × (slice_get classes n ≡ Some c) × (c.name ≡ name)

-- a row names a task of the job
abbrev pub Names : Plan → TraceRow → Task → Type 0
Names P e t = IsTask P t × (e ≡ row_of P t)

-- the code of a row that names no task, or names one of these again
abbrev pub IsNamingFault : Plan → List Task → TraceRow → TraceCode → Type 0
IsNamingFault P before e UnknownTask = (t : Task) → Names P e t → ⊥
IsNamingFault P before e RanTwice = (t : Task) × Names P e t × IsIn t before
IsNamingFault P before e TooEarly = ⊥
IsNamingFault P before e TooLong = ⊥
IsNamingFault P before e BadTrace = ⊥
IsNamingFault P before e Unfinished = ⊥

-- these rows name these tasks, which are different
pub record AreRowsOf (P : Plan) (es : List TraceRow) (ts : List Task) : Type 0 where
  pub named : es ≡ map (row_of P) ts
  pub tasks : AllByRecursion (IsTask P) ts
  pub once : HasNoRepeats ts

-- these tasks are those of the rows before one with this code
pub record AreRowsBefore (P : Plan) (es : List TraceRow) (ts : List Task) (code : TraceCode) : Type 0 where
  pub front : List TraceRow
  pub failed : TraceRow
  pub later : List TraceRow
  pub split : es ≡ front ++ failed ∷ later
  pub rows : AreRowsOf P front ts
  pub fault : IsNamingFault P ts failed code
