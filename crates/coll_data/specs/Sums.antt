-- The elements of collections, and the sum of all elements of data.
-- Carried by: `Given::element_sum`.
-- Tested by: `demo.txt`.
use Rattle.std.specs.Prelude.{ℤ, pos, ◌+ℤ◌, List, fold}
use Rattle.std.specs.List.{flat_map}
use Rattle.coll_data.specs.declared.coll.Coll.{Coll}

-- the elements of these tiles, in order
abbrev pub tile_elements : List (List ℤ) → List ℤ
tile_elements tiles = flat_map (λ (tile : List ℤ). tile) tiles

-- the elements of all tiles of these collections, in order
abbrev pub all_elements : List Coll → List ℤ
all_elements colls = flat_map (λ (c : Coll). tile_elements c.tiles) colls

-- the sum of these numbers
abbrev pub sum_of : List ℤ → ℤ
sum_of numbers = fold ◌+ℤ◌ (pos 0) numbers
