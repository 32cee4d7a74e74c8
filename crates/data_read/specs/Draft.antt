-- The data of the records so far, and what a record adds to them.
-- Carried by: `read_data`; laws `data_laws::faults_are_first`, `data_laws::data_are_by_records`,
-- `data_laws::the_first_code_is_the_fault`.
-- Tested by: `data_codes.txt`, `data_forms.txt`, `data_limits.txt`, `data_orders.txt`.
use Rattle.std.specs.Prelude.{ℕ, ◌+◌, ◌-◌, ◌*◌, ℤ, pos, Bool, not, ◌||◌, List, [], ◌∷◌, ◌++◌, length, map, replicate, Option, Some, None, is_some}
use Rattle.std.specs.Prelude.{slice_get, slice_set, bytes_eq, option_map, option_and_then, unwrap_or, if◌then◌else◌}
use Rattle.std.specs.List.{list_any}
use Rattle.coll_data.specs.Types.{default_type}
use Rattle.coll_data.specs.Data.{Data}
use Rattle.coll_data.specs.Tiles.{tile_count, tile_index}
use Rattle.coll_data.specs.declared.coll.Coll.{Coll}
use Rattle.data_read.specs.declared.growing.GrowingColl.{GrowingColl as GrowingStruct}

-- the code's struct of a collection with the tiles of the records so far; laws of other crates use this name for it
abbrev pub GrowingColl : Type 0
GrowingColl = GrowingStruct

-- the types after DEFAULT with their numbers of elements, the number of elements of DEFAULT, the integers, the
-- collections, and how many elements the tiles of all collections have
pub record Draft : Type 0 where
  pub types : List (List ℕ × ℕ)
  pub elems : ℕ
  pub ints : List (List ℕ × ℤ)
  pub colls : List GrowingColl
  pub elements : ℕ

-- no type after DEFAULT, no integer and no collection
abbrev pub begun : ℕ → Draft
begun elems = record { types = []; elems = elems; ints = []; colls = []; elements = 0 }

-- the number and the elements of the type with this name among these, numbered from the given number on
abbrev pub type_among : List ℕ → ℕ → List (List ℕ × ℕ) → Option (ℕ × ℕ)
type_among name number [] = None
type_among name number (type ∷ types) =
    if bytes_eq name type.0 then Some (number, type.1) else type_among name (number + 1) types

-- the number and the elements of the type with this name; DEFAULT is type 0
abbrev pub type_named : Draft → List ℕ → Option (ℕ × ℕ)
type_named d name = type_among name 0 ((default_type, d.elems) ∷ d.types)

-- the number of the first of these collections that has this name, counted from 0
abbrev pub coll_index : List ℕ → List GrowingColl → Option ℕ
coll_index name [] = None
coll_index name (coll ∷ colls) =
    if bytes_eq name coll.name then Some 0 else option_map (λ n. n + 1) (coll_index name colls)

-- the collection with this name, and its number
abbrev pub coll_named : Draft → List ℕ → Option (ℕ × GrowingColl)
coll_named d name =
    option_and_then (λ at. option_map (λ coll. (at, coll)) (slice_get d.colls at)) (coll_index name d.colls)

-- neither an integer nor a collection has this name
abbrev pub is_new : Draft → List ℕ → Bool
is_new d name =
    not (is_some (coll_index name d.colls) || list_any (λ ((other, value) : List ℕ × ℤ). bytes_eq name other) d.ints)

-- the index of the tile in row i and column j, and the tile if an earlier record has it
abbrev pub slot_at : GrowingColl → ℤ → ℤ → Option (ℕ × Option (List ℤ))
slot_at coll i j =
    option_and_then (λ index. option_map (λ tile. (index, tile)) (slice_get coll.tiles index))
    (tile_index coll.shape.0 coll.shape.1 i j)

-- a tile of this many elements with these first numbers; the others are 0
abbrev pub opened : ℕ → List ℤ → List ℤ
opened elements values = values ++ replicate (elements - length values) (pos 0)

-- the data with one more type
abbrev pub with_type : Draft → List ℕ → ℕ → Draft
with_type d name elements = record d { types = d.types ++ (name, elements) ∷ [] }

-- the data with one more integer
abbrev pub with_int : Draft → List ℕ → ℤ → Draft
with_int d name value = record d { ints = d.ints ++ (name, value) ∷ [] }

-- the data with one more collection of this shape, with tiles of the type with this number and this many elements; no
-- record has one of its tiles yet
abbrev pub with_coll : Draft → List ℕ → ℕ × Option ℕ → ℕ → ℕ → Draft
with_coll d name shape datatype elements =
    record d {
      colls =
          d.colls
          ++ record {
            name = name;
            shape = shape;
            datatype = datatype;
            elements = elements;
            tiles = replicate (tile_count shape.0 shape.1) None;
          }
          ∷ [];
      elements = d.elements + tile_count shape.0 shape.1 * elements;
    }

-- the data with this tile at this index of a collection
abbrev pub with_tile : Draft → ℕ → GrowingColl → ℕ → List ℤ → Draft
with_tile d at coll index tile =
    record d { colls = slice_set d.colls at (record coll { tiles = slice_set coll.tiles index (Some tile) }) }

-- a collection, with zeros for each tile that has no record
abbrev pub finished : GrowingColl → Coll
finished coll =
    record {
      shape = coll.shape;
      name = coll.name;
      datatype = coll.datatype;
      tiles = map (λ tile. unwrap_or tile (replicate coll.elements (pos 0))) coll.tiles;
    }

-- the data after this many records
abbrev pub data_after : ℕ → Draft → Data
data_after records d =
    record { types = d.types; elems = d.elems; ints = d.ints; colls = map finished d.colls; records_read = records }
