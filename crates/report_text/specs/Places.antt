-- The order in which the tiles of a collection are printed.
-- Carried by: `report`.
-- Tested by: `check.txt`, `type_faults.txt`.
use Rattle.std.specs.Prelude.{ℕ, ◌/◌, ◌%◌, List, [], ◌∷◌, map, flat_map, Option, Some, None}
use Rattle.std.specs.List.{range_with_len}

-- the places of a collection, row by row and in each row column by column; a place is its row, and its column if there
-- are columns
abbrev pub places : ℕ → Option ℕ → List (List ℕ)
places rows None = map (λ i. i ∷ []) (range_with_len 0 rows)
places rows (Some cols) = flat_map (λ i. map (λ j. i ∷ j ∷ []) (range_with_len 0 cols)) (range_with_len 0 rows)

-- the place that has n places before it
abbrev pub place_after : Option ℕ → ℕ → List ℕ
place_after None n = n ∷ []
place_after (Some cols) n = n / cols ∷ n % cols ∷ []
