-- The index of a place as places are listed for printing.
-- Carried by: law `the_place_printed_is_the_place_read`.
use Rattle.std.specs.Prelude.{ℕ, pos, List, [], ◌∷◌, Option, Some, None}
use Rattle.coll_data.specs.Tiles.{tile_index}

-- the index by which the tile at a listed place is read and written; a listed place is its row, and its column if there
-- are columns
abbrev pub listed_index : ℕ → Option ℕ → List ℕ → Option ℕ
listed_index rows None (i ∷ []) = tile_index rows None (pos i) (pos 0)
listed_index rows (Some cols) (i ∷ j ∷ []) = tile_index rows (Some cols) (pos i) (pos j)
listed_index rows cols place = None
