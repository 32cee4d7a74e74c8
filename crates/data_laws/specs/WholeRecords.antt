-- The data of a list of records, from the whole list at once. The types, the integers and the collections come in the
-- order of their records. A place of a collection has the tile of that place's record.
-- Carried by: laws `faults_are_first`, `data_are_by_records`, `the_first_code_is_the_fault`.
use Rattle.std.specs.Prelude.{ℕ, ◌+◌, ◌*◌, ℤ, Bool, ◌&&◌, ◌||◌, List, ◌∷◌, map, drop, codes, bytes_eq, slice_get, sum_by, Option, None, option_map}
use Rattle.std.specs.Prelude.{option_and_then, if◌then◌else◌, Some, nat_eq}
use Rattle.std.specs.List.{filter_map, range_with_len}
use Rattle.std.specs.Option.{option_eq}
use Rattle.coll_data.specs.Types.{default_type}
use Rattle.coll_data.specs.Tiles.{tile_count, tile_index}
use Rattle.data_read.specs.Draft.{GrowingColl, Draft, opened, type_among}
use Rattle.data_read.specs.Fields.{field, whole, begins}
use Rattle.data_read.specs.Records.{column, columns, element_count, first_value, numbers, shape_of}

-- a record is its fields
abbrev pub Record : Type 0
Record = List (List ℕ)

-- ---- types and integers

-- the type of an `elems` record
abbrev pub type_in : Record → Option (List ℕ × ℕ)
type_in fields =
    if begins (codes "elems") fields
    then option_map (λ n. (field fields 1, n)) (element_count (field fields 2))
    else None

-- the types of these records, which follow DEFAULT
abbrev pub types_of : List Record → List (List ℕ × ℕ)
types_of records = filter_map type_in records

-- all types by their numbers; a tile of type DEFAULT has this many elements
abbrev pub all_types : ℕ → List Record → List (List ℕ × ℕ)
all_types elems records = (default_type, elems) ∷ types_of records

-- the integer of an `int` record
abbrev pub int_in : Record → Option (List ℕ × ℤ)
int_in fields =
    if begins (codes "int") fields then option_map (λ z. (field fields 1, z)) (whole (field fields 2)) else None

-- the integers of these records
abbrev pub ints_of : List Record → List (List ℕ × ℤ)
ints_of records = filter_map int_in records

-- ---- collections without their tiles

-- a collection without its tiles: its name and shape, the number of its type, and the number of elements of each of its
-- tiles
pub record Heading : Type 0 where
  pub name : List ℕ
  pub shape : ℕ × Option ℕ
  pub datatype : ℕ
  pub elements : ℕ

-- the record is of a collection
abbrev pub declares : Record → Bool
declares fields = begins (codes "coll") fields || begins (codes "collof") fields

-- the name of the type of a collection
abbrev pub type_name_in : Record → List ℕ
type_name_in fields = if begins (codes "coll") fields then default_type else field fields 1

-- the number of the field that has the name of a collection
abbrev pub name_at : Record → ℕ
name_at fields = if begins (codes "coll") fields then 1 else 2

-- the shape of a collection: the rows are in the field of this number, the columns, if there are any, in the next one
abbrev pub shape_in : Record → ℕ → Option (ℕ × Option ℕ)
shape_in fields at =
    option_and_then (λ rows. option_and_then (shape_of rows) (columns fields (at + 1))) (whole (field fields at))

-- the heading of a collection of one of these types, with the name in the field of this number
abbrev pub heading_at : Option (ℕ × ℕ) → Record → ℕ → Option Heading
heading_at type fields at =
    option_and_then (λ known.
    option_map (λ shape. record { name = field fields at; shape = shape; datatype = known.0; elements = known.1 })
    (shape_in fields (at + 1))) type

-- the heading of the collection of a `coll` or `collof` record
abbrev pub heading_in : List (List ℕ × ℕ) → Record → Option Heading
heading_in types fields =
    if declares fields then heading_at (type_among (type_name_in fields) 0 types) fields (name_at fields) else None

-- the headings of the collections of these records
abbrev pub headings_of : ℕ → List Record → List Heading
headings_of elems records = filter_map (heading_in (all_types elems records)) records

-- how many elements the tiles of a collection have
abbrev pub elements_of : Heading → ℕ
elements_of h = tile_count h.shape.0 h.shape.1 * h.elements

-- ---- tiles

-- the index of the place of a `tile` record in a collection of this shape
abbrev pub tile_index_in : ℕ × Option ℕ → Record → Option ℕ
tile_index_in shape fields =
    option_and_then (λ i. option_and_then (λ j. tile_index shape.0 shape.1 i j) (column shape.1 fields))
    (whole (field fields 2))

-- the record is of the tile at this index of a collection
abbrev pub is_of_tile : Heading → ℕ → Record → Bool
is_of_tile h index fields =
    begins (codes "tile") fields && bytes_eq (field fields 1) h.name
    && option_eq nat_eq (tile_index_in h.shape fields) (Some index)

-- the tile of a record of this place: its values, and zeros after them
abbrev pub tile_in : Heading → ℕ → Record → Option (List ℤ)
tile_in h index fields =
    if is_of_tile h index fields
    then option_map (opened h.elements) (numbers (drop (first_value h.shape.1) fields))
    else None

-- the tile at this index, if one of these records has it
abbrev pub given_tile : Heading → List Record → ℕ → Option (List ℤ)
given_tile h records index = slice_get (filter_map (tile_in h index) records) 0

-- the collection with the tiles that these records have for its places
abbrev pub with_tiles : List Record → Heading → GrowingColl
with_tiles records h =
    record {
      name = h.name;
      shape = h.shape;
      datatype = h.datatype;
      elements = h.elements;
      tiles = map (given_tile h records) (range_with_len 0 (tile_count h.shape.0 h.shape.1));
    }

-- the data of these records, which follow a first one; a tile of type DEFAULT has this many elements
abbrev pub data_of_records : ℕ → List Record → Draft
data_of_records elems records =
    record {
      types = types_of records;
      elems = elems;
      ints = ints_of records;
      colls = map (with_tiles records) (headings_of elems records);
      elements = sum_by elements_of (headings_of elems records);
    }
