-- Well made data: their limits, and that each collection is whole.
-- Carried by: `Given::new`, `Given::tile`, `Given::elements`.
-- Tested by: `data_forms.txt`, `jobs.txt`.
use Rattle.std.specs.Prelude.{◌≡◌, ℕ, ℤ, ◌≤◌, ◌<◌, ◌*◌, List, ◌∷◌, length, map, IsTrue, IfSome, slice_get, slice_index}
use Rattle.std.specs.List.{AllByRecursion, list_all, sum_by}
use Rattle.ptg_base.specs.Limits.{most_elements, most_named_types, most_tiles}
pub use Rattle.ptg_base.specs.Places.{is_element_count}
use Rattle.coll_data.specs.declared.coll.Coll.{Coll}
use Rattle.coll_data.specs.Data.{Data}
use Rattle.coll_data.specs.Tiles.{tile_count}

-- how many elements each type has, by its number; type 0 is DEFAULT
abbrev pub elements_by_type : Data → List ℕ
elements_by_type d = d.elems ∷ map (λ ((name, elements) : List ℕ × ℕ). elements) d.types

-- the collection has at least one place, and a tile for each
pub record IsWhole (c : Coll) : Type 0 where
  pub has_tiles : 1 ≤ tile_count c.shape.0 c.shape.1
  pub all_tiles : length c.tiles ≡ tile_count c.shape.0 c.shape.1

-- a whole collection of one of these types, with at most 65,536 places; each tile has as many numbers as its type has
-- elements
pub record IsWellColl (elements : List ℕ) (c : Coll) : Type 0 where
  pub datatype : c.datatype < length elements
  pub whole : IsWhole c
  pub tiles_at_most : tile_count c.shape.0 c.shape.1 ≤ most_tiles
  pub tile_lengths : AllByRecursion (λ (tile : List ℤ). length tile ≡ slice_index elements c.datatype) c.tiles

-- how many elements the tiles of all collections have
abbrev pub element_total : List ℕ → List Coll → ℕ
element_total elements colls = sum_by (λ (c : Coll). length c.tiles * slice_index elements c.datatype) colls

-- at most 16 types, DEFAULT among them, each with 1 to 4,096 elements; collections of these, with at most
-- 16,777,216 elements in all
pub record IsWellMade (d : Data) : Type 0 where
  pub types_at_most : length d.types ≤ most_named_types
  pub element_counts : IsTrue (list_all is_element_count (elements_by_type d))
  pub colls : AllByRecursion (IsWellColl (elements_by_type d)) d.colls
  pub elements_at_most : element_total (elements_by_type d) d.colls ≤ most_elements

-- the tile has as many numbers as the type of the collection with this number has elements
abbrev pub IsTileOf : Data → ℕ → List ℤ → Type 0
IsTileOf d coll tile =
    IfSome (slice_get d.colls coll) (λ (c : Coll). length tile ≡ slice_index (elements_by_type d) c.datatype)
