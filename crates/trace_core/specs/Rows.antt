-- The parts of a row: its name, and its numbers with a comma before each.
-- Carried by: inside `read_rows`.
-- Tested by: `trace_spelling.txt`.
use Rattle.std.specs.Prelude.{◌≡◌, ℕ, ℤ, IsTrue, List, ◌∷◌, ◌++◌, codes, flat_map}
use Rattle.std.specs.List.{list_all}
use Rattle.std.specs.Fmt.{signed_decimal}
use Rattle.trace_core.specs.Cutting.{opens_with}
use Rattle.trace_core.specs.Spelling.{IsSpelled, is_number}
use Rattle.trace_core.specs.Text.{TraceRow, row_line}

-- a number with a comma before it
abbrev pub number_field : ℤ → List ℕ
number_field n = 44 ∷ signed_decimal n

-- numbers, each with a comma before it
abbrev pub number_fields : List ℤ → List ℕ
number_fields ns = flat_map number_field ns

-- a row without its LF
abbrev pub row_content : TraceRow → List ℕ
row_content e = codes "ran," ++ (e.name ++ number_fields e.params)

-- a text begins with a comma and this number; the rest is empty or begins with a comma
pub record BeginsWithNumber (text : List ℕ) (n : ℤ) (rest : List ℕ) : Type 0 where
  pub split : text ≡ number_field n ++ rest
  pub fits : IsTrue (is_number n)
  pub next : IsTrue (opens_with 44 rest)

-- a text does not begin with a comma and a number
abbrev pub HasNoNumber : List ℕ → Type 0
HasNoNumber text = (n : ℤ) (rest : List ℕ) → BeginsWithNumber text n rest → ⊥

-- a text is these numbers, each after a comma, and they fit 64 bits
pub record AreNumbers (text : List ℕ) (ns : List ℤ) : Type 0 where
  pub spelled : text ≡ number_fields ns
  pub fit : IsTrue (list_all is_number ns)

-- a text is some numbers that fit 64 bits, each after a comma
abbrev pub IsOfNumbers : List ℕ → Type 0
IsOfNumbers text = (ns : List ℤ) × AreNumbers text ns

-- the parts of the row of this entry
pub record IsRowOf (e : TraceRow) (name numbers : List ℕ) : Type 0 where
  pub spelled : IsSpelled e
  pub same_name : name ≡ e.name
  pub same_numbers : numbers ≡ number_fields e.params

-- a text begins with a row of these parts, and `rest` follows it
pub record BeginsWithRow (text name numbers rest : List ℕ) : Type 0 where
  pub entry : TraceRow
  pub row : IsRowOf entry name numbers
  pub split : text ≡ row_line entry ++ rest
