-- The text of a trace: a line with the number of its rows, and a row for each task in the order in which they ran.
-- Carried by: `trace_text`, `read_rows`.
-- Tested by: `trace_spelling.txt`.
use Rattle.std.specs.Prelude.{ℕ, ℤ, List, [], ◌∷◌, ◌++◌, codes, flat_map, length, map}
use Rattle.std.specs.Fmt.{decimal, signed_decimal}
use Rattle.ptg_base.specs.Line.{line}
use Rattle.ptg_base.specs.Task.{Task}
use Rattle.plan_core.specs.NamesByNumber.{class_name}
use Rattle.plan_core.specs.declared.plan.Plan.{Plan}

-- what a row has: a name, and numbers, whether or not they name a task
pub record TraceRow : Type 0 where
  pub name : List ℕ
  pub params : List ℤ

-- the first line of a text with this many rows after it
abbrev pub head_line : ℕ → List ℕ
head_line n = line (codes "trace" ∷ decimal n ∷ [])

-- the line of a row
abbrev pub row_line : TraceRow → List ℕ
row_line e = line (codes "ran" ∷ e.name ∷ map signed_decimal e.params)

-- the lines of rows, one after another
abbrev pub rows_text : List TraceRow → List ℕ
rows_text es = flat_map row_line es

-- what the row of a task has: the name of its class, and its parameters
abbrev pub row_of : Plan → Task → TraceRow
row_of P t = record { name = class_name P t.class; params = t.params }

-- the text of tasks in this order
unfoldable pub trace_text : Plan → List Task → List ℕ
trace_text P ts = head_line (length ts) ++ rows_text (map (row_of P) ts)
