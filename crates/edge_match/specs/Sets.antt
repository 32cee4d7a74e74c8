-- Which places a set has, by one truth value for each place of a collection, row by row.
-- Carried by: `PlaceSet`.
use Rattle.std.specs.Prelude.{◌≡◌, ◌↔◌, ℕ, ℤ, List, Bool, false, map, Some, unsigned_abs}
use Rattle.std.specs.Prelude.{slice_get, slice_index_or, unwrap_or, IsTrue}
use Rattle.std.specs.Option.{option_map_or}
use Rattle.ptg_base.specs.Places.{number_in}
use Rattle.ptg_base.specs.Lists.{IsIn}
use Rattle.ptg_base.specs.declared.place.Place.{Place}
use Rattle.plan_core.specs.declared.shape.Shape.{Shape}
use Rattle.plan_core.specs.Place.{HasPlace, IsRow}
use Rattle.edge_match.specs.declared.rows.Rows.{Rows}
use Rattle.edge_match.specs.declared.place_set.PlaceSet.{PlaceSet}

-- how many rows and columns a collection has; one column in one dimension
abbrev pub size : Shape → ℕ × ℕ
size shape = (shape.rows, unwrap_or shape.cols 1)

-- how many rows and columns a set of places has
abbrev pub size_of : Rows → ℕ × ℕ
size_of s = (s.rows, s.cols)

-- this row and this column exist
abbrev pub IsWithin : Rows → ℤ → ℤ → Type 0
IsWithin s i j = IsRow s.rows i × IsRow s.cols j

-- whether the set has the place in this row and column
abbrev pub has_at : Rows → ℤ → ℤ → Bool
has_at s i j = slice_index_or s.has.items (number_in (Some s.cols) (unsigned_abs i) (unsigned_abs j)) false

-- the set has as many rows and columns as the shape, and no place
abbrev pub IsEmpty : Shape → Rows → Type 0
IsEmpty shape s = (size_of s ≡ size shape) × ((i j : ℤ) → IsTrue (has_at s i j) → ⊥)

-- whether a place is in the set
unfoldable pub has : PlaceSet → Place → Bool
has w p = option_map_or (λ (s : Rows). has_at s p.i p.j) (slice_get w.sets.items p.coll) false

-- among the places of collections of these shapes, the set has exactly those of the list
pub record IsSetOf (colls : List Shape) (w : PlaceSet) (ps : List Place) : Type 0 where
  pub shapes : map size_of w.sets.items ≡ map size colls
  pub members : (p : Place) → HasPlace colls p → IsTrue (has w p) ↔ IsIn p ps
