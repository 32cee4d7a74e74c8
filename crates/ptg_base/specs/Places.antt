-- The places of collections, for plans and data alike, how many tiles there are, and the sizes of tiles. Rows and
-- columns count from 0.
-- Carried by: `plan_core::Plan::has_place`, `coll_data::Given::new`, `coll_data::Given::tile`.
-- Tested by: `type_places.txt`, `data_codes.txt`, `data_forms.txt`, `jobs.txt`.
use Rattle.std.specs.Prelude.{◌≡◌, ◌*◌, ◌&&◌, ℕ, nat_le, ℤ, pos, ◌≤ℤ◌, ◌<ℤ◌, Bool, List, slice_get, IsSomeAnd, Option, Some, None, ◌+◌}
use Rattle.ptg_base.specs.Limits.{most_tile_elements}
use Rattle.ptg_base.specs.declared.place.Place.{Place}

-- i is a row of a collection of this many rows
abbrev pub IsRow : ℕ → ℤ → Type 0
IsRow rows i = (pos 0 ≤ℤ i) × (i <ℤ pos rows)

-- j is a column of a collection of this many columns; in a collection of one dimension (None) it is 0
abbrev pub IsColumn : Option ℕ → ℤ → Type 0
IsColumn None j = j ≡ pos 0
IsColumn (Some cols) j = (pos 0 ≤ℤ j) × (j <ℤ pos cols)

-- The place exists: its collection is one of these and has its row and column. `rows` and `cols` give the sizes of a
-- collection.
abbrev pub HasPlaceAmong : {A : Type 0} → (A → ℕ) → (A → Option ℕ) → List A → Place → Type 0
HasPlaceAmong rows cols colls p = IsSomeAnd (slice_get colls p.coll) (λ c. IsRow (rows c) p.i × IsColumn (cols c) p.j)

-- The number of a place in its collection, counted row by row, from its number of columns (None in one dimension), its
-- row and its column. The place need not exist.
-- Carried by: `dep_iter::place_number`.
abbrev pub number_in : Option ℕ → ℕ → ℕ → ℕ
number_in None row column = row
number_in (Some cols) row column = row * cols + column

-- how many tiles a collection of this many rows and columns has; None is for one dimension
abbrev pub tile_count : ℕ → Option ℕ → ℕ
tile_count rows None = rows
tile_count rows (Some cols) = rows * cols

-- whether a type of tiles may have this many elements
abbrev pub is_element_count : ℕ → Bool
is_element_count n = nat_le 1 n && nat_le n most_tile_elements
