-- The fields of a record of a data file: blanks around them, names, and whole numbers. Names are spelled as in the JDF
-- documentation; the rest is this project's own choice.
-- Carried by: `read_data`; laws `data_laws::faults_are_first`, `data_laws::data_are_by_records`,
-- `data_laws::the_first_code_is_the_fault`.
-- Tested by: `data_codes.txt`, `data_forms.txt`, `data_limits.txt`, `data_orders.txt`.
use Rattle.std.specs.Prelude.{ℕ, ◌+◌, Bool, ◌&&◌, ◌||◌, ◌==◌, ℤ, pos, neg_ℤ, List, [], ◌∷◌, take, get_or, Option, Some, None, if◌then◌else◌, bytes_eq}
use Rattle.ptg_base.specs.Limits.{most_number}
use Rattle.ptg_base.specs.Decimal.{is_decimal, decimal}
pub use Rattle.ptg_base.specs.Names.{is_name}

-- space and tab
abbrev pub is_blank : ℕ → Bool
is_blank b = (b == 32) || (b == 9)

-- the bytes from the first one that is no blank
unfoldable pub after_blanks : List ℕ → List ℕ
after_blanks [] = []
after_blanks (b ∷ bs) = if is_blank b then after_blanks bs else b ∷ bs

-- how many bytes there are up to the last one that is no blank
unfoldable pub content_length : List ℕ → ℕ
content_length [] = 0
content_length (b ∷ bs) = if (content_length bs == 0) && is_blank b then 0 else content_length bs + 1

-- the bytes without the blanks at both ends
abbrev pub without_blanks : List ℕ → List ℕ
without_blanks bytes = take (content_length (after_blanks bytes)) (after_blanks bytes)

-- the field of this number, counted from 0, without the blanks around it; no bytes if the record has no such field
abbrev pub field : List (List ℕ) → ℕ → List ℕ
field fields at = without_blanks (get_or fields at [])

-- whether the first field of the record is this word
abbrev pub begins : List ℕ → List (List ℕ) → Bool
begins word fields = bytes_eq (field fields 0) word

-- the number that digits without a sign or after `+` spell, if it fits 64 bits
abbrev pub positive : List ℕ → Option ℤ
positive digits = if is_decimal most_number digits then Some (pos (decimal digits)) else None

-- the number that digits after `-` spell, if it fits 64 bits
abbrev pub negative : List ℕ → Option ℤ
negative digits = if is_decimal (most_number + 1) digits then Some (neg_ℤ (pos (decimal digits))) else None

-- a whole number: perhaps a `-` or a `+`, and then digits
abbrev pub whole : List ℕ → Option ℤ
whole [] = None
whole (b ∷ bs) = if b == 45 then negative bs else if b == 43 then positive bs else positive (b ∷ bs)
