-- When each code of a fault fits a record, whatever the other codes do, and the order of the codes.
-- Carried by: laws `faults_are_first`, `data_are_by_records`, `the_first_code_is_the_fault`.
use Rattle.std.specs.Prelude.{◌≡◌, ℕ, ◌+◌, ◌-◌, ◌*◌, Bool, false, not, ◌&&◌, ◌||◌, ◌==◌, nat_le, nat_lt, List, [], ◌∷◌, length, drop, codes, find}
use Rattle.std.specs.Prelude.{Option, is_some, is_none, if◌then◌else◌}
use Rattle.std.specs.Option.{option_and_then, option_map, option_map_or}
use Rattle.std.specs.Result.{result_err}
use Rattle.ptg_base.specs.Limits.{most_elements, most_named_types}
use Rattle.coll_data.specs.Types.{default_type}
use Rattle.coll_data.specs.Tiles.{tile_count}
use Rattle.coll_data.specs.declared.fault.DataCode.{DataCode}
use Rattle.coll_data.specs.declared.fault.DataCode.TheVariants.{TooLong, NoElems, ElemsTwice, UnknownRow, FieldCount, BadElems, BadName, NameTwice}
use Rattle.coll_data.specs.declared.fault.DataCode.TheVariants.{TypeTwice, TooManyTypes, UnknownType, UnknownColl, TileCount, BadNumber}
use Rattle.coll_data.specs.declared.fault.DataCode.TheVariants.{TooManyTiles, TooManyElements, BadIndex, TileTwice, MissingName}
use Rattle.data_read.specs.Fields.{field, is_name, whole, begins}
use Rattle.data_read.specs.Draft.{GrowingColl, Draft, type_named, coll_named, is_new, slot_at}
use Rattle.data_read.specs.Records.{column, columns, element_count, first_record, first_value, later_record, numbers, shape_of}
use Rattle.data_laws.specs.WholeRecords.{Record, shape_in}

-- ---- records, by their first field

-- an `elems` record that passes the test
abbrev pub is_type_with : Bool → Record → Bool
is_type_with test fields = begins (codes "elems") fields && test

-- an `int` record that passes the test
abbrev pub is_int_with : Bool → Record → Bool
is_int_with test fields = begins (codes "int") fields && test

-- a `tile` record that passes the test
abbrev pub is_tile_with : Bool → Record → Bool
is_tile_with test fields = begins (codes "tile") fields && test

-- a record of a collection that passes the test; the test is given the name of its type, and the number of the field
-- with its own name
abbrev pub is_coll_with : (List ℕ → ℕ → Bool) → Record → Bool
is_coll_with test fields =
    if begins (codes "coll") fields
    then test default_type 1
    else if begins (codes "collof") fields then test (field fields 1) 2 else false

-- a `tile` record that names a collection that passes the test
abbrev pub is_of_coll_with : (GrowingColl → Bool) → Draft → Record → Bool
is_of_coll_with test d fields =
    is_tile_with
    (option_map_or (λ ((index, coll) : ℕ × GrowingColl). test coll) (coll_named d (field fields 1)) false) fields

-- a test of two numbers, which fails if one of them is missing
abbrev pub both_pass : {A B : Type 0} → (A → B → Bool) → Option A → Option B → Bool
both_pass test a b = option_map_or (λ x. option_map_or (λ y. test x y) b false) a false

-- ---- each code

-- the first field is one of the five words
abbrev pub has_word : Record → Bool
has_word fields =
    begins (codes "elems") fields || begins (codes "int") fields || begins (codes "coll") fields
    || begins (codes "collof") fields || begins (codes "tile") fields

-- the number of fields is not that of the word
abbrev pub has_wrong_field_count : Record → Bool
has_wrong_field_count fields =
    is_type_with (not (length fields == 3)) fields
    || is_int_with (not (length fields == 3)) fields
    || (begins (codes "coll") fields && not ((length fields == 3) || (length fields == 4)))
    || (begins (codes "collof") fields && not ((length fields == 4) || (length fields == 5)))
    || is_tile_with (not (nat_le 4 (length fields))) fields

-- a name is not spelled as a name
abbrev pub has_bad_name : Record → Bool
has_bad_name fields =
    is_type_with (not (is_name (field fields 1))) fields
    || is_int_with (not (is_name (field fields 1))) fields
    || is_coll_with (λ type at. not (is_name type && is_name (field fields at))) fields
    || is_tile_with (not (is_name (field fields 1))) fields

-- an integer or a collection has the name of an earlier one
abbrev pub has_taken_name : Draft → Record → Bool
has_taken_name d fields =
    is_int_with (not (is_new d (field fields 1))) fields
    || is_coll_with (λ type at. not (is_new d (field fields at))) fields

-- the tile has no value, or more values than its type has elements
abbrev pub has_wrong_value_count : Record → GrowingColl → Bool
has_wrong_value_count fields coll =
    not
    (nat_le 1 (length fields - first_value coll.shape.1)
    && nat_le (length fields - first_value coll.shape.1) coll.elements)

-- an index or a value of the tile is no whole number
abbrev pub has_non_number : Record → GrowingColl → Bool
has_non_number fields coll =
    is_none (whole (field fields 2)) || is_none (column coll.shape.1 fields)
    || is_none (numbers (drop (first_value coll.shape.1) fields))

-- a field that should be a whole number is not one
abbrev pub has_bad_number : Draft → Record → Bool
has_bad_number d fields =
    is_int_with (is_none (whole (field fields 2))) fields
    || is_coll_with (λ type at. is_none (whole (field fields (at + 1))) || is_none (columns fields (at + 2))) fields
    || is_of_coll_with (has_non_number fields) d fields

-- the collection has no tile, or more than 65,536
abbrev pub has_wrong_tile_count : Record → Bool
has_wrong_tile_count fields =
    is_coll_with
    (λ type at.
    both_pass (λ rows cols. is_none (shape_of rows cols)) (whole (field fields (at + 1))) (columns fields (at + 2)))
    fields

-- how many elements the collection of a record has in all, if its type has this name; its own name is in the field of
-- this number
abbrev pub asked_elements : Draft → Record → List ℕ → ℕ → Option ℕ
asked_elements d fields type at =
    option_and_then
    (λ ((number, elements) : ℕ × ℕ).
    option_map (λ ((rows, cols) : ℕ × Option ℕ). tile_count rows cols * elements) (shape_in fields (at + 1)))
    (type_named d type)

-- with the collection of this record, the tiles of all collections have too many elements
abbrev pub has_too_many_elements : Draft → Record → Bool
has_too_many_elements d fields =
    is_coll_with
    (λ type at.
    option_map_or (λ n. not (nat_le (d.elements + n) most_elements)) (asked_elements d fields type at) false)
    fields

-- the tile's place is outside its collection
abbrev pub has_bad_index : Record → GrowingColl → Bool
has_bad_index fields coll =
    both_pass (λ i j. is_none (slot_at coll i j)) (whole (field fields 2)) (column coll.shape.1 fields)

-- an earlier record has the same tile
abbrev pub gives_tile_twice : Record → GrowingColl → Bool
gives_tile_twice fields coll =
    both_pass (λ i j. option_map_or (λ slot. is_some slot.1) (slot_at coll i j) false)
    (whole (field fields 2)) (column coll.shape.1 fields)

-- whether a code fits a record that follows the first one, given the data before it
abbrev pub fits : Draft → Record → DataCode → Bool
fits d fields TooLong = false
fits d fields NoElems = false
fits d fields ElemsTwice = is_type_with (length fields == 2) fields
fits d fields UnknownRow = not (has_word fields)
fits d fields FieldCount = has_wrong_field_count fields
fits d fields BadElems = is_type_with (is_none (element_count (field fields 2))) fields
fits d fields BadName = has_bad_name fields
fits d fields NameTwice = has_taken_name d fields
fits d fields TypeTwice = is_type_with (is_some (type_named d (field fields 1))) fields
fits d fields TooManyTypes = is_type_with (not (nat_lt (length d.types) most_named_types)) fields
fits d fields UnknownType = is_coll_with (λ type at. is_none (type_named d type)) fields
fits d fields UnknownColl = is_tile_with (is_none (coll_named d (field fields 1))) fields
fits d fields TileCount = is_of_coll_with (has_wrong_value_count fields) d fields
fits d fields BadNumber = has_bad_number d fields
fits d fields TooManyTiles = has_wrong_tile_count fields
fits d fields TooManyElements = has_too_many_elements d fields
fits d fields BadIndex = is_of_coll_with (has_bad_index fields) d fields
fits d fields TileTwice = is_of_coll_with (gives_tile_twice fields) d fields
fits d fields MissingName = false

-- whether a code fits the first record
abbrev pub fits_first : Record → DataCode → Bool
fits_first fields NoElems = not (begins (codes "elems") fields)
fits_first fields FieldCount = not (length fields == 2)
fits_first fields BadElems = is_none (element_count (field fields 1))
fits_first fields code = false

-- ---- the order of the codes

-- the codes, in the order in which they are judged
abbrev pub all_codes : List DataCode
all_codes =
    NoElems
    ∷ ElemsTwice
    ∷ UnknownRow
    ∷ FieldCount
    ∷ BadElems
    ∷ BadName
    ∷ NameTwice
    ∷ TypeTwice
    ∷ TooManyTypes
    ∷ UnknownType
    ∷ UnknownColl
    ∷ TileCount
    ∷ BadNumber
    ∷ TooManyTiles
    ∷ TooManyElements
    ∷ BadIndex
    ∷ TileTwice
    ∷ []

-- the first code that fits a record after the first one, given the data before it
abbrev pub first_code : Draft → Record → Option DataCode
first_code d fields = find (fits d fields) all_codes

-- the first code that fits the first record
abbrev pub first_code_at_start : Record → Option DataCode
first_code_at_start fields = find (fits_first fields) all_codes

-- The fault of a record is the first code that fits it. A record that no code fits has no fault.
abbrev pub FaultIsFirstCode : Type 0
FaultIsFirstCode = (d : Draft) (fields : Record) → result_err (later_record d fields) ≡ first_code d fields

-- The fault of the first record is the first code that fits it. If no code fits it, it has no fault.
abbrev pub FaultAtStartIsFirstCode : Type 0
FaultAtStartIsFirstCode = (fields : Record) → result_err (first_record fields) ≡ first_code_at_start fields
