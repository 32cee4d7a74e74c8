-- The fault of a record is the first code that fits it.
use Rattle.std.specs.Prelude.{◌==◌, ◌&&◌, ◌||◌, ◌-◌, ◌*◌, nat_le, nat_lt, is_none, find}
use Rattle.std.proofs.Common.{◌≡◌, ℕ, ◌+◌, Bool, true, false, not, List, length, drop, codes, Option, Some, None, Result, Ok, Err, refl, sym, ◌∙◌, ap}
use Rattle.std.specs.Option.{option_and_then, option_map, option_map_or}
use Rattle.std.specs.Result.{result_err}
use Rattle.ptg_base.specs.Limits.{most_elements}
use Rattle.coll_data.specs.Types.{default_type}
use Rattle.coll_data.specs.Tiles.{tile_count}
use Rattle.coll_data.specs.declared.fault.DataCode.{DataCode}
use Rattle.coll_data.specs.declared.fault.DataCode.TheVariants.{BadName, NameTwice, UnknownType, BadNumber, TooManyTiles, TooManyElements}
use Rattle.data_read.specs.Fields.{field, is_name, whole, begins}
use Rattle.data_read.specs.Draft.{Draft, coll_named, is_new, slot_at, type_named}
use Rattle.data_read.specs.Records.{coll_of, coll_record, collof_record, column, columns, element_count, first_record}
use Rattle.data_read.specs.Records.{first_value, int_record, later_record, numbers, shape_of, tile_record, type_record}
use Rattle.data_laws.specs.WholeRecords.{Record}
use Rattle.data_laws.specs.Codes.{all_codes, both_pass, first_code, first_code_at_start}
use Rattle.data_read.proofs.CallerLemmas.{by_option}
use Rattle.list_lemmas.proofs.Truth.{by_test}
use Rattle.list_lemmas.proofs.Options.{by_result}
use Rattle.list_lemmas.proofs.Texts.{bytes_eq-apart}

has_code : {A : Type 0} (r : Result A DataCode) (code : DataCode) → result_err r ≡ Some code → r ≡ Err code
has_code (Ok a) code e = absurd cc
has_code (Err c) code e = let same : c ≡ code = cc in ap (λ x. Err x) same

-- ---- types

type_code : (d : Draft) (fields : Record) → begins (codes "elems") fields ≡ true → result_err (type_record d fields) ≡ first_code d fields
type_code d fields w =
    let i = bytes_eq-apart (field fields 0) (codes "elems") (codes "int") w refl in
    let c = bytes_eq-apart (field fields 0) (codes "elems") (codes "coll") w refl in
    let o = bytes_eq-apart (field fields 0) (codes "elems") (codes "collof") w refl in
    let t = bytes_eq-apart (field fields 0) (codes "elems") (codes "tile") w refl in
    by_test (length fields == 2)
    (λ two. rw (w, i, c, o, t, two) refl)
    (λ two.
    by_test (length fields == 3)
    (λ three.
    by_option (element_count (field fields 2))
    (λ none. rw (w, i, c, o, t, two, three, none) refl)
    (λ n count.
    by_test (is_name (field fields 1))
    (λ named.
    by_option (type_named d (field fields 1))
    (λ new.
    by_test (nat_lt (length d.types) 15)
    (λ room. rw (w, i, c, o, t, two, three, count, named, new, room) refl)
    (λ room. rw (w, i, c, o, t, two, three, count, named, new, room) refl))
    (λ k known. rw (w, i, c, o, t, two, three, count, named, known) refl))
    (λ named. rw (w, i, c, o, t, two, three, count, named) refl)))
    (λ three. rw (w, i, c, o, t, two, three) refl))

-- ---- integers

int_code : (d : Draft) (fields : Record) → begins (codes "int") fields ≡ true → result_err (int_record d fields) ≡ first_code d fields
int_code d fields w =
    let e = bytes_eq-apart (field fields 0) (codes "int") (codes "elems") w refl in
    let c = bytes_eq-apart (field fields 0) (codes "int") (codes "coll") w refl in
    let o = bytes_eq-apart (field fields 0) (codes "int") (codes "collof") w refl in
    let t = bytes_eq-apart (field fields 0) (codes "int") (codes "tile") w refl in
    by_test (length fields == 3)
    (λ three.
    by_test (is_name (field fields 1))
    (λ named.
    by_test (is_new d (field fields 1))
    (λ new.
    by_option (whole (field fields 2))
    (λ none. rw (e, w, c, o, t, three, named, new, none) refl)
    (λ z number. rw (e, w, c, o, t, three, named, new, number) refl))
    (λ taken. rw (e, w, c, o, t, three, named, taken) refl))
    (λ unnamed. rw (e, w, c, o, t, three, unnamed) refl))
    (λ other. rw (e, w, c, o, t, other) refl)

-- ---- collections

-- whether a code fits a record of a collection, given the name of its type and the number of the field with its own
-- name. The `|| false` are the tests of other words.
abbrev coll_fits : Draft → Record → List ℕ → ℕ → DataCode → Bool
coll_fits d fields type at BadName = not (is_name type && is_name (field fields at)) || false
coll_fits d fields type at NameTwice = not (is_new d (field fields at))
coll_fits d fields type at UnknownType = is_none (type_named d type)
coll_fits d fields type at BadNumber = (is_none (whole (field fields (at + 1))) || is_none (columns fields (at + 1 + 1))) || false
coll_fits d fields type at TooManyTiles = both_pass (λ rows cols. is_none (shape_of rows cols)) (whole (field fields (at + 1))) (columns fields (at + 1 + 1))
coll_fits d fields type at TooManyElements =
    option_map_or (λ n. not (nat_le (d.elements + n) most_elements))
    (option_and_then
    (λ (known : ℕ × ℕ).
    option_map (λ (s : ℕ × Option ℕ). tile_count s.0 s.1 * known.1)
    (option_and_then (λ rows. option_and_then (shape_of rows) (columns fields (at + 1 + 1))) (whole (field fields (at + 1)))))
    (type_named d type))
    false
coll_fits d fields type at code = false

coll_of_code : (d : Draft) (fields : Record) (type : List ℕ) (at : ℕ) → result_err (coll_of d type fields at) ≡ find (coll_fits d fields type at) all_codes
coll_of_code d fields type at =
    by_test (is_name type && is_name (field fields at))
    (λ named.
    by_test (is_new d (field fields at))
    (λ new.
    by_option (type_named d type)
    (λ none. rw (named, new, none) refl)
    (λ known hk.
    by_option (whole (field fields (at + 1)))
    (λ none. rw (named, new, hk, none) refl)
    (λ rs hr.
    by_option (columns fields (at + 1 + 1))
    (λ none. rw (named, new, hk, hr, none) refl)
    (λ cs hc.
    by_option (shape_of rs cs)
    (λ none. rw (named, new, hk, hr, hc, none) refl)
    (λ shape hs.
    by_test (nat_le (d.elements + tile_count shape.0 shape.1 * known.1) 16777216)
    (λ room. rw (named, new, hk, hr, hc, hs, room) refl)
    (λ room. rw (named, new, hk, hr, hc, hs, room) refl))))))
    (λ taken. rw (named, taken) refl))
    (λ unnamed. rw unnamed refl)

coll_code : (d : Draft) (fields : Record) → begins (codes "coll") fields ≡ true → result_err (coll_record d fields) ≡ first_code d fields
coll_code d fields w =
    let e = bytes_eq-apart (field fields 0) (codes "coll") (codes "elems") w refl in
    let i = bytes_eq-apart (field fields 0) (codes "coll") (codes "int") w refl in
    let o = bytes_eq-apart (field fields 0) (codes "coll") (codes "collof") w refl in
    let t = bytes_eq-apart (field fields 0) (codes "coll") (codes "tile") w refl in
    by_test ((length fields == 3) || (length fields == 4))
    (λ count. rw (e, i, w, o, t, count) (coll_of_code d fields default_type 1))
    (λ count. rw (e, i, w, o, t, count) refl)

collof_code : (d : Draft) (fields : Record) → begins (codes "collof") fields ≡ true → result_err (collof_record d fields) ≡ first_code d fields
collof_code d fields w =
    let e = bytes_eq-apart (field fields 0) (codes "collof") (codes "elems") w refl in
    let i = bytes_eq-apart (field fields 0) (codes "collof") (codes "int") w refl in
    let c = bytes_eq-apart (field fields 0) (codes "collof") (codes "coll") w refl in
    let t = bytes_eq-apart (field fields 0) (codes "collof") (codes "tile") w refl in
    by_test ((length fields == 4) || (length fields == 5))
    (λ count. rw (e, i, c, w, t, count) (coll_of_code d fields (field fields 1) 2))
    (λ count. rw (e, i, c, w, t, count) refl)

-- ---- tiles

tile_code : (d : Draft) (fields : Record) → begins (codes "tile") fields ≡ true → result_err (tile_record d fields) ≡ first_code d fields
tile_code d fields w =
    let e = bytes_eq-apart (field fields 0) (codes "tile") (codes "elems") w refl in
    let i = bytes_eq-apart (field fields 0) (codes "tile") (codes "int") w refl in
    let c = bytes_eq-apart (field fields 0) (codes "tile") (codes "coll") w refl in
    let o = bytes_eq-apart (field fields 0) (codes "tile") (codes "collof") w refl in
    by_test (nat_le 4 (length fields))
    (λ four.
    by_test (is_name (field fields 1))
    (λ named.
    by_option (coll_named d (field fields 1))
    (λ none. rw (e, i, c, o, w, four, named, none) refl)
    (λ known hk.
    let coll = known.1 in
    let first = first_value coll.shape.1 in
    by_test (nat_le 1 (length fields - first) && nat_le (length fields - first) coll.elements)
    (λ few.
    by_option (whole (field fields 2))
    (λ none. rw (e, i, c, o, w, four, named, hk, few, none) refl)
    (λ x hx.
    by_option (column coll.shape.1 fields)
    (λ none. rw (e, i, c, o, w, four, named, hk, few, hx, none) refl)
    (λ y hy.
    by_option (numbers (drop first fields))
    (λ none. rw (e, i, c, o, w, four, named, hk, few, hx, hy, none) refl)
    (λ values hv.
    by_option (slot_at coll x y)
    (λ none. rw (e, i, c, o, w, four, named, hk, few, hx, hy, hv, none) refl)
    (λ slot hs.
    by_option slot.1
    (λ free. rw (e, i, c, o, w, four, named, hk, few, hx, hy, hv, hs, free) refl)
    (λ tile given. rw (e, i, c, o, w, four, named, hk, few, hx, hy, hv, hs, given) refl))))))
    (λ other. rw (e, i, c, o, w, four, named, hk, other) refl)))
    (λ unnamed. rw (e, i, c, o, w, four, unnamed) refl))
    (λ short. rw (e, i, c, o, w, short) refl)

-- ---- any record

pub first_code_is : (d : Draft) (fields : Record) → result_err (later_record d fields) ≡ first_code d fields
first_code_is d fields =
    by_test (begins (codes "elems") fields)
    (λ h. is_kind (type_record d fields) (later_record d fields) (rw h refl) (type_code d fields h))
    (λ e.
    by_test (begins (codes "int") fields)
    (λ h. is_kind (int_record d fields) (later_record d fields) (rw (e, h) refl) (int_code d fields h))
    (λ i.
    by_test (begins (codes "coll") fields)
    (λ h. is_kind (coll_record d fields) (later_record d fields) (rw (e, i, h) refl) (coll_code d fields h))
    (λ c.
    by_test (begins (codes "collof") fields)
    (λ h. is_kind (collof_record d fields) (later_record d fields) (rw (e, i, c, h) refl) (collof_code d fields h))
    (λ o.
    by_test (begins (codes "tile") fields)
    (λ h. is_kind (tile_record d fields) (later_record d fields) (rw (e, i, c, o, h) refl) (tile_code d fields h))
    (λ t. rw (e, i, c, o, t) refl)))))
  where
    is_kind : (kind all : Result Draft DataCode) → all ≡ kind → result_err kind ≡ first_code d fields → result_err all ≡ first_code d fields
    is_kind kind all same is = ap result_err same ∙ is

pub first_code_at_start_is : (fields : Record) → result_err (first_record fields) ≡ first_code_at_start fields
first_code_at_start_is fields =
    by_test (begins (codes "elems") fields)
    (λ w.
    by_test (length fields == 2)
    (λ two.
    by_option (element_count (field fields 1))
    (λ none. rw (w, two, none) refl)
    (λ n count. rw (w, two, count) refl))
    (λ other. rw (w, other) refl))
    (λ w. rw w refl)

-- ---- faults and codes

pub no_fault : (d next : Draft) (fields : Record) → later_record d fields ≡ Ok next → first_code d fields ≡ None
no_fault d next fields is = sym (first_code_is d fields) ∙ ap result_err is

pub no_code : (d : Draft) (fields : Record) → first_code d fields ≡ None → (next : Draft) × (later_record d fields ≡ Ok next)
no_code d fields none =
    by_result (later_record d fields)
    (λ next h. (next, h))
    (λ code h. absurd (let never : Some code ≡ None = sym (ap result_err h) ∙ first_code_is d fields ∙ none in cc))

pub fault_has_code : (d : Draft) (fields : Record) (code : DataCode) → later_record d fields ≡ Err code → first_code d fields ≡ Some code
fault_has_code d fields code is = sym (first_code_is d fields) ∙ ap result_err is

pub code_is_fault : (d : Draft) (fields : Record) (code : DataCode) → first_code d fields ≡ Some code → later_record d fields ≡ Err code
code_is_fault d fields code some = has_code (later_record d fields) code (first_code_is d fields ∙ some)

pub fault_at_start_has_code : (fields : Record) (code : DataCode) → first_record fields ≡ Err code → first_code_at_start fields ≡ Some code
fault_at_start_has_code fields code is = sym (first_code_at_start_is fields) ∙ ap result_err is

pub code_is_fault_at_start : (fields : Record) (code : DataCode) → first_code_at_start fields ≡ Some code → first_record fields ≡ Err code
code_is_fault_at_start fields code some = has_code (first_record fields) code (first_code_at_start_is fields ∙ some)
