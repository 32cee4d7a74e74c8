-- The places of data and the tiles at them; tiles are listed row by row.
-- Carried by: `Given::new`, `Given::tile`.
-- Tested by: `data_forms.txt`, `jobs.txt`.
use Rattle.std.specs.Prelude.{ℕ, ℤ, List, Option, Some, None, slice_get, option_map, option_and_then}
use Rattle.ptg_base.specs.Index.{index_in}
use Rattle.ptg_base.specs.declared.place.Place.{Place}
pub use Rattle.ptg_base.specs.Places.{IsRow, IsColumn, tile_count}
use Rattle.ptg_base.specs.Places.{HasPlaceAmong, number_in}
use Rattle.coll_data.specs.declared.coll.Coll.{Coll}

-- the place's collection exists, and has its row and column
abbrev pub HasPlace : List Coll → Place → Type 0
HasPlace colls p = HasPlaceAmong (λ (c : Coll). c.shape.0) (λ (c : Coll). c.shape.1) colls p

-- the index of the tile in row i and column j of a collection with this many rows and columns, if it has that row and
-- column: tiles are counted row by row
abbrev pub tile_index : ℕ → Option ℕ → ℤ → ℤ → Option ℕ
tile_index rows None i j = option_and_then (λ column. index_in rows i) (index_in 1 j)
tile_index rows (Some cols) i j =
    option_and_then (λ column. option_map (λ row. number_in (Some cols) row column) (index_in rows i)) (index_in cols j)

-- the tile at a place, if there is one
abbrev pub tile_at : List Coll → Place → Option (List ℤ)
tile_at colls p =
    option_and_then (λ (c : Coll). option_and_then (slice_get c.tiles) (tile_index c.shape.0 c.shape.1 p.i p.j))
    (slice_get colls p.coll)
