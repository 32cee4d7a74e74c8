-- Which texts are spelled as a trace, whatever their rows name, and which row is the first that is not.
-- Carried by: `read_rows`.
-- Tested by: `trace_spelling.txt`.
use Rattle.std.specs.Prelude.{◌≡◌, ◌≢◌, ◌+◌, ◌<◌, ◌≤◌, ℕ, IsTrue, List, [], ◌++◌, length}
use Rattle.std.specs.List.{AllByRecursion, list_all}
use Rattle.ptg_base.specs.Limits.{most_tasks}
pub use Rattle.ptg_base.specs.Names.{is_name}
pub use Rattle.term_core.specs.Arith.{is_number}
use Rattle.trace_core.specs.Text.{TraceRow, head_line, row_line, rows_text}

-- what a row may have: any name, and any count of numbers that fit 64 bits
pub record IsSpelled (e : TraceRow) : Type 0 where
  pub name : IsTrue (is_name e.name)
  pub params : IsTrue (list_all is_number e.params)

-- a text begins with the head of a trace of n rows, and with these rows; `rest` follows them
pub record BeginsWith (text : List ℕ) (n : ℕ) (es : List TraceRow) (rest : List ℕ) : Type 0 where
  pub at_most : n ≤ most_tasks
  pub split : text ≡ head_line n ++ (rows_text es ++ rest)
  pub spelled : AllByRecursion IsSpelled es

-- a text has as many rows as its head states, which are these, and nothing after them
abbrev pub IsWellSpelled : List ℕ → List TraceRow → Type 0
IsWellSpelled text es = BeginsWith text (length es) es []

-- a text does not begin with the head of a trace
abbrev pub HasNoHead : List ℕ → Type 0
HasNoHead text = (n : ℕ) (rest : List ℕ) → n ≤ most_tasks → text ≡ head_line n ++ rest → ⊥

-- a text does not begin with a row
abbrev pub HasNoRow : List ℕ → Type 0
HasNoRow text = (e : TraceRow) (rest : List ℕ) → IsSpelled e → text ≡ row_line e ++ rest → ⊥

-- the row of this number, counted from 1, is the first that is not well spelled
pub data IsBadRow (text : List ℕ) (row : ℕ) : Type 0 where
  -- the head
  bad_head : HasNoHead text → row ≡ 1 → IsBadRow text row
  -- a row of those that the head states is missing, or is not spelled as one
  bad_row : (n : ℕ) (es : List TraceRow) (rest : List ℕ) → BeginsWith text n es rest → length es < n → HasNoRow rest
      → row ≡ length es + 2 → IsBadRow text row
  -- something follows these rows
  row_too_many : (n : ℕ) (es : List TraceRow) (rest : List ℕ) → BeginsWith text n es rest → length es ≡ n → rest ≢ []
      → row ≡ length es + 2 → IsBadRow text row
