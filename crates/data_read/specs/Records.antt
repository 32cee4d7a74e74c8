-- What one record adds to the data, or the code of its fault. Each record is judged test by test, in the order of the
-- codes, and the first test that fails names the fault.
-- Carried by: `read_data`; laws `data_laws::faults_are_first`, `data_laws::data_are_by_records`,
-- `data_laws::the_first_code_is_the_fault`.
-- Tested by: `data_codes.txt`, `data_forms.txt`, `data_limits.txt`, `data_orders.txt`.
use Rattle.std.specs.Prelude.{ℕ, ◌+◌, ◌-◌, ◌*◌, ℤ, pos, negsuc, Bool, not, ◌&&◌, ◌||◌, ◌==◌, nat_le, nat_lt, List, [], ◌∷◌, length, drop, codes}
use Rattle.std.specs.Prelude.{Option, Some, None, is_some, Result, Ok, Err, option_map, option_and_then, if◌then◌else◌, ok_or}
use Rattle.ptg_base.specs.Limits.{most_elements, most_named_types, most_tiles}
use Rattle.ptg_base.specs.Returns.{and_then}
use Rattle.coll_data.specs.Types.{default_type}
use Rattle.coll_data.specs.Tiles.{tile_count}
use Rattle.coll_data.specs.WellMade.{is_element_count}
use Rattle.coll_data.specs.declared.fault.DataCode.{DataCode}
use Rattle.coll_data.specs.declared.fault.DataCode.TheVariants.{NoElems, ElemsTwice, UnknownRow, FieldCount, BadElems, BadName, NameTwice, TypeTwice}
use Rattle.coll_data.specs.declared.fault.DataCode.TheVariants.{TooManyTypes, UnknownType, UnknownColl, TileCount, BadNumber, TooManyTiles}
use Rattle.coll_data.specs.declared.fault.DataCode.TheVariants.{TooManyElements, BadIndex, TileTwice}
use Rattle.data_read.specs.declared.growing.GrowingColl.{GrowingColl}
use Rattle.data_read.specs.declared.growing.AskedColl.{AskedColl as AskedStruct}
use Rattle.data_read.specs.Fields.{field, is_name, whole, without_blanks, begins}
use Rattle.data_read.specs.Draft.{Draft, type_named, coll_named, is_new, slot_at, opened, with_type, with_int, with_coll, with_tile}

-- the code's struct of the shape and the type that a collection asks for; laws of other crates use this name for it
abbrev pub AskedColl : Type 0
AskedColl = AskedStruct

-- a test that has to be passed
abbrev pub require : {A : Type 0} → Bool → DataCode → Result A DataCode → Result A DataCode
require passed code next = if passed then next else Err code

-- a value that has to be there
abbrev pub demand : {A B : Type 0} → Option A → DataCode → (A → Result B DataCode) → Result B DataCode
demand a code next = and_then (ok_or a code) next

-- the number, if it is from 1 to 4,096
abbrev pub as_element_count : ℤ → Option ℕ
as_element_count (pos n) = if is_element_count n then Some n else None
as_element_count (negsuc n) = None

-- the number of elements that the field spells
abbrev pub element_count : List ℕ → Option ℕ
element_count bytes = option_and_then as_element_count (whole bytes)

-- the first record is `elems,E`: the number of elements of DEFAULT
abbrev pub first_record : List (List ℕ) → Result ℕ DataCode
first_record fields =
    require (begins (codes "elems") fields) NoElems
    (require (length fields == 2) FieldCount
    (demand (element_count (field fields 1)) BadElems (λ elements. Ok elements)))

-- `elems,TYPE,E`: one more type; there are at most 16, counting DEFAULT
abbrev pub type_record : Draft → List (List ℕ) → Result Draft DataCode
type_record d fields =
    require (not (length fields == 2)) ElemsTwice
    (require (length fields == 3) FieldCount
    (demand (element_count (field fields 2)) BadElems (λ elements.
    require (is_name (field fields 1)) BadName
    (require (not (is_some (type_named d (field fields 1)))) TypeTwice
    (require (nat_lt (length d.types) most_named_types) TooManyTypes
    (Ok (with_type d (field fields 1) elements)))))))

-- `int,NAME,V`: one more integer
abbrev pub int_record : Draft → List (List ℕ) → Result Draft DataCode
int_record d fields =
    require (length fields == 3) FieldCount
    (require (is_name (field fields 1)) BadName
    (require (is_new d (field fields 1)) NameTwice
    (demand (whole (field fields 2)) BadNumber (λ value.
    Ok (with_int d (field fields 1) value)))))

-- the number of columns in the field of this number; none if the record ends before that field
abbrev pub columns : List (List ℕ) → ℕ → Option (Option ℤ)
columns fields at = if nat_lt at (length fields) then option_map (λ z. Some z) (whole (field fields at)) else Some None

-- the number, if it is from 1 to 65,536
abbrev pub side : ℤ → Option ℕ
side (pos n) = if nat_le 1 n && nat_le n most_tiles then Some n else None
side (negsuc n) = None

-- the shape with this many rows and columns, if it has 1 to 65,536 tiles
abbrev pub shape_of : ℤ → Option ℤ → Option (ℕ × Option ℕ)
shape_of rows None = option_map (λ r. (r, None)) (side rows)
shape_of rows (Some cols) =
    option_and_then
    (λ r. option_and_then (λ c. if nat_le (r * c) most_tiles then Some (r, Some c) else None) (side cols))
    (side rows)

-- the shape of a collection and the type of its tiles, which has this name. The rows are in the field of the given
-- number; the columns, if there are any, are in the next one. The tiles of all collections have at most 2 ^ 24
-- elements.
abbrev pub asked_coll : Draft → List ℕ → List (List ℕ) → ℕ → Result AskedColl DataCode
asked_coll d type fields at =
    demand (type_named d type) UnknownType (λ known.
    demand (whole (field fields at)) BadNumber (λ rows.
    demand (columns fields (at + 1)) BadNumber (λ cols.
    demand (shape_of rows cols) TooManyTiles (λ shape.
    require (nat_le (d.elements + tile_count shape.0 shape.1 * known.1) most_elements) TooManyElements
    (Ok (record { shape = shape; datatype = known.0; elements = known.1 }))))))

-- one more collection, with tiles of the type with this name: its own name is in the field of the given number, and its
-- size follows
abbrev pub coll_of : Draft → List ℕ → List (List ℕ) → ℕ → Result Draft DataCode
coll_of d type fields at =
    require (is_name type && is_name (field fields at)) BadName
    (require (is_new d (field fields at)) NameTwice
    (and_then (asked_coll d type fields (at + 1)) (λ size.
    Ok (with_coll d (field fields at) size.shape size.datatype size.elements))))

-- `coll,NAME,R` or `coll,NAME,R,C`: one more collection, with tiles of type DEFAULT
abbrev pub coll_record : Draft → List (List ℕ) → Result Draft DataCode
coll_record d fields =
    require ((length fields == 3) || (length fields == 4)) FieldCount (coll_of d default_type fields 1)

-- `collof,TYPE,NAME,R` or `collof,TYPE,NAME,R,C`: one more collection, with tiles of the type with this name
abbrev pub collof_record : Draft → List (List ℕ) → Result Draft DataCode
collof_record d fields =
    require ((length fields == 4) || (length fields == 5)) FieldCount (coll_of d (field fields 1) fields 2)

-- the number of the field that has the first value of a tile: it follows one index, or two if there are columns
abbrev pub first_value : Option ℕ → ℕ
first_value None = 3
first_value (Some cols) = 4

-- the column of a tile; 0 in a collection of one dimension
abbrev pub column : Option ℕ → List (List ℕ) → Option ℤ
column None fields = Some (pos 0)
column (Some cols) fields = whole (field fields 3)

-- the numbers that the fields spell, if each spells one
abbrev pub numbers : List (List ℕ) → Option (List ℤ)
numbers [] = Some []
numbers (bytes ∷ fields) =
    option_and_then (λ z. option_map (λ zs. z ∷ zs) (numbers fields)) (whole (without_blanks bytes))

-- the index of the tile in row i and column j, if no earlier record has that tile
abbrev pub free_index : GrowingColl → ℤ → ℤ → Result ℕ DataCode
free_index coll i j =
    demand (slot_at coll i j) BadIndex (λ slot.
    require (not (is_some slot.1)) TileTwice
    (Ok slot.0))

-- the tile of a record, with its index in this collection, if no earlier record has that tile
abbrev pub new_tile : List (List ℕ) → GrowingColl → Result (ℕ × List ℤ) DataCode
new_tile fields coll =
    require (nat_le 1 (length fields - first_value coll.shape.1)
    && nat_le (length fields - first_value coll.shape.1) coll.elements) TileCount
    (demand (whole (field fields 2)) BadNumber (λ i.
    demand (column coll.shape.1 fields) BadNumber (λ j.
    demand (numbers (drop (first_value coll.shape.1) fields)) BadNumber (λ values.
    and_then (free_index coll i j) (λ index.
    Ok (index, opened coll.elements values))))))

-- `tile,NAME,i,v0,..` or `tile,NAME,i,j,v0,..`: the opening values of a tile, at most as many as its type has elements;
-- the others are 0
abbrev pub tile_record : Draft → List (List ℕ) → Result Draft DataCode
tile_record d fields =
    require (nat_le 4 (length fields)) FieldCount
    (require (is_name (field fields 1)) BadName
    (demand (coll_named d (field fields 1)) UnknownColl (λ found.
    and_then (new_tile fields found.1) (λ tile.
    Ok (with_tile d found.0 found.1 tile.0 tile.1)))))

-- a record after the first one, chosen by its first field
abbrev pub later_record : Draft → List (List ℕ) → Result Draft DataCode
later_record d fields =
    if begins (codes "elems") fields then type_record d fields
    else if begins (codes "int") fields then int_record d fields
    else if begins (codes "coll") fields then coll_record d fields
    else if begins (codes "collof") fields then collof_record d fields
    else if begins (codes "tile") fields then tile_record d fields
    else Err UnknownRow
