-- Fields of lines.
-- Carried by: `report`, `consistent`, `refusal`.
-- Tested by: `check.txt`, `type_faults.txt`.
use Rattle.std.specs.Prelude.{ℕ, List, [], ◌∷◌, map, flat_map}
use Rattle.std.specs.Fmt.{decimal, signed_decimal}
pub use Rattle.ptg_base.specs.Line.{line}
use Rattle.report_text.specs.declared.fields.Field.{Field}
use Rattle.report_text.specs.declared.fields.Field.TheVariants.{Word, Number, Integer, Integers}

-- the texts of a field: its word, its number or its integer in decimal, or each of its integers in decimal
abbrev pub field_texts : Field → List (List ℕ)
field_texts (Word word) = word.now ∷ []
field_texts (Number n) = decimal n ∷ []
field_texts (Integer n) = signed_decimal n ∷ []
field_texts (Integers integers) = map signed_decimal integers.now

-- texts with a comma before each
abbrev pub with_commas : List (List ℕ) → List ℕ
with_commas texts = flat_map (λ text. 44 ∷ text) texts
