-- Lines of printed text.
-- Carried by: `report_text::report`, `report_text::refusal`; `report_text` passes the name on.
-- Tested by: all rows.
use Rattle.std.specs.Prelude.{ℕ, List, [], ◌∷◌, ◌++◌}
use Rattle.std.specs.List.{join_with_byte}

-- a line: these texts, joined by commas, and LF
abbrev pub line : List (List ℕ) → List ℕ
line texts = join_with_byte 44 texts ++ 10 ∷ []
