-- Each record keeps the data so far sound.
use Rattle.std.specs.Prelude.{◌==◌, ◌&&◌, ◌||◌, nat_le, nat_lt}
use Rattle.std.proofs.Common.{◌≡◌, ℕ, suc, ◌+◌, ◌*◌, ◌<◌, ◌≤◌, ℤ, pos, negsuc, true, List, [], ◌∷◌, ◌++◌, length, map, get_or, replicate, codes}
use Rattle.std.proofs.Common.{bytes_eq, Option, Some, None, option_map, option_and_then, Ok, IsTrue, refl, sym, ◌∙◌, ap, subst, inl, inr, arith}
use Rattle.std.proofs.Common.{mul-pos}
use Rattle.std.specs.List.{list_all, AllByRecursion}
use Rattle.std.proofs.lemmas.Bool.{leb-true, ltb-true, and_parts}
use Rattle.std.proofs.lemmas.List.{length-replicate, length-map, length_push, map-append}
use Rattle.std.proofs.lemmas.List.Sums.{sum_by_push}
use Rattle.std.specs.Prelude.{if◌then◌else◌}
use Rattle.coll_data.specs.Types.{default_type}
use Rattle.coll_data.specs.Tiles.{tile_count}
use Rattle.coll_data.specs.WellMade.{is_element_count}
use Rattle.data_read.specs.declared.growing.GrowingColl.{GrowingColl}
use Rattle.data_read.specs.declared.growing.AskedColl.{AskedColl}
use Rattle.data_read.specs.Fields.{field, is_name, whole}
use Rattle.data_read.specs.Draft.{Draft, begun, is_new, type_among, type_named, with_coll, with_type}
use Rattle.data_read.specs.Records.{as_element_count, coll_of, coll_record, collof_record, element_count, first_record, int_record, shape_of, side}
use Rattle.data_read.specs.Records.{asked_coll, type_record}
use Rattle.data_read.proofs.Choices.{by_option, no_value}
use Rattle.data_read.proofs.Accepted.{asked}
use Rattle.data_read.proofs.Soundness.{HasLength, IsSound, IsSoundColl, all_replicate, all_true_push, at_push, counts_of, elements_in}
use Rattle.list_lemmas.proofs.Truth.{chosen, by_test}
use Rattle.list_lemmas.proofs.Options.{by_result, same_Ok}
use Rattle.list_lemmas.proofs.Places.{each_push, each_weaker}

-- ---- the first record

is_count : (z : ℤ) (n : ℕ) → as_element_count z ≡ Some n → is_element_count n ≡ true
is_count (negsuc m) n e = absurd cc
is_count (pos m) n e = elim (chosen (is_element_count m) (Some m) None (Some n) e) [
  | inl w ↦ let same : m ≡ n = (let s : ◌≡◌ {A = Option ℕ} (Some m) (Some n) = w.1 in cc) in subst (λ k. is_element_count k ≡ true) same w.0
  | inr w ↦ absurd (let s : ◌≡◌ {A = Option ℕ} None (Some n) = w.1 in cc)
]

count_found : (o : Option ℤ) (n : ℕ) → option_and_then as_element_count o ≡ Some n → is_element_count n ≡ true
count_found None n e = absurd cc
count_found (Some z) n e = is_count z n e

first_sound : (elems : ℕ) → is_element_count elems ≡ true → IsSound (begun elems)
first_sound elems count = record { types_at_most = omega arith; counts = rw count refl; colls = tt; total = refl; at_most = omega arith }

pub begun_sound : (fields : List (List ℕ)) (elems : ℕ) → first_record fields ≡ Ok elems → IsSound (begun elems)
begun_sound fields elems is =
    by_test (bytes_eq (field fields 0) (codes "elems"))
    (λ h. let is = rw h at is in
    by_test (length fields == 2)
    (λ h. let is = rw h at is in
    by_option (element_count (field fields 1))
    (λ h. let s = rw h at is in no_value s)
    (λ n hn. let is = rw hn at is in
    let same : n ≡ elems = same_Ok _ _ is in
    subst (λ k. IsSound (begun k)) same (first_sound n (count_found (whole (field fields 1)) n hn))))
    (λ h. let s = rw h at is in no_value s))
    (λ h. let s = rw h at is in no_value s)

-- ---- types

coll_grown : (counts : List ℕ) (n : ℕ) (c : GrowingColl) → IsSoundColl counts c → IsSoundColl (counts ++ n ∷ []) c
coll_grown counts n c sound =
    let within = sound.datatype in
    record {
      datatype = omega (arith, length_push counts n);
      elements = at_push counts n c.datatype within ∙ sound.elements;
      has_tiles = sound.has_tiles;
      tiles_at_most = sound.tiles_at_most;
      all_tiles = sound.all_tiles;
      lengths = sound.lengths;
    }

counts_grown : (d : Draft) (name : List ℕ) (n : ℕ) → counts_of (with_type d name n) ≡ counts_of d ++ n ∷ []
counts_grown d name n = ap (λ ns. d.elems ∷ ns) (map-append (λ (type : List ℕ × ℕ). type.1) d.types ((name, n) ∷ []))

with_type_sound : (d : Draft) (name : List ℕ) (n : ℕ) → IsSound d → is_element_count n ≡ true → length d.types < 15 → IsSound (with_type d name n)
with_type_sound d name n sound count room =
    let same = sym (counts_grown d name n) in
    record {
      types_at_most = omega (arith, length_push d.types (name, n));
      counts = subst (λ ns. IsTrue (list_all is_element_count ns)) same (all_true_push is_element_count (counts_of d) n sound.counts count);
      colls = subst (λ ns. AllByRecursion (IsSoundColl ns) d.colls) same
          (each_weaker (IsSoundColl (counts_of d)) (IsSoundColl (counts_of d ++ n ∷ [])) d.colls
          (coll_grown (counts_of d) n) sound.colls);
      total = sound.total;
      at_most = sound.at_most;
    }

pub type_sound : (d e : Draft) (fields : List (List ℕ)) → IsSound d → type_record d fields ≡ Ok e → IsSound e
type_sound d e fields sound is =
    by_test (length fields == 2)
    (λ h. let s = rw h at is in no_value s)
    (λ h. let is = rw h at is in
    by_test (length fields == 3)
    (λ h. let is = rw h at is in
    by_option (element_count (field fields 2))
    (λ h. let s = rw h at is in no_value s)
    (λ n hn. let is = rw hn at is in
    by_test (is_name (field fields 1))
    (λ h. let is = rw h at is in
    by_option (type_named d (field fields 1))
    (λ hk. let is = rw hk at is in
    by_test (nat_lt (length d.types) 15)
    (λ hr. let is = rw hr at is in
    subst IsSound (same_Ok _ _ is) (with_type_sound d (field fields 1) n sound (count_found (whole (field fields 2)) n hn) (ltb-true (length d.types) 15 hr)))
    (λ h. let s = rw h at is in no_value s))
    (λ k hk. let s = rw hk at is in no_value s))
    (λ h. let s = rw h at is in no_value s)))
    (λ h. let s = rw h at is in no_value s))

-- ---- integers

pub int_sound : (d e : Draft) (fields : List (List ℕ)) → IsSound d → int_record d fields ≡ Ok e → IsSound e
int_sound d e fields sound is =
    by_test (length fields == 3)
    (λ h. let is = rw h at is in
    by_test (is_name (field fields 1))
    (λ h. let is = rw h at is in
    by_test (is_new d (field fields 1))
    (λ h. let is = rw h at is in
    by_option (whole (field fields 2))
    (λ h. let s = rw h at is in no_value s)
    (λ v hv. let is = rw hv at is in
    subst IsSound (same_Ok _ _ is) (record {
      types_at_most = sound.types_at_most;
      counts = sound.counts;
      colls = sound.colls;
      total =
          sound.total;
      at_most = sound.at_most;
    })))
    (λ h. let s = rw h at is in no_value s))
    (λ h. let s = rw h at is in no_value s))
    (λ h. let s = rw h at is in no_value s)

-- ---- collections

-- a type that a name finds is one of the types
record IsTypeAt (number : ℕ) (types : List (List ℕ × ℕ)) (known : ℕ × ℕ) : Type 0 where
  place : ℕ
  within : place < length types
  is_number : known.0 ≡ number + place
  is_count : get_or (map (λ (type : List ℕ × ℕ). type.1) types) place 0 ≡ known.1

type_at : (name : List ℕ) (number : ℕ) (types : List (List ℕ × ℕ)) (known : ℕ × ℕ) → type_among name number types ≡ Some known → IsTypeAt number types known
type_at name number [] known e = absurd cc
type_at name number (t ∷ ts) known e = elim (chosen (bytes_eq name t.0) (Some (number, t.1)) (type_among name (number + 1) ts) (Some known) e) [
  | inl w ↦
      let same : (number, t.1) ≡ known = (let s : ◌≡◌ {A = Option (ℕ × ℕ)} (Some (number, t.1)) (Some known) = w.1 in cc) in
      let n : number ≡ known.0 = ap (λ (k : ℕ × ℕ). k.0) same in
      record { place = 0; within = omega arith; is_number = omega arith; is_count = ap (λ (k : ℕ × ℕ). k.1) same }
  | inr w ↦
      let rest = type_at name (number + 1) ts known w.1 in
      let within = rest.within in
      let n = rest.is_number in
      record { place = suc rest.place; within = omega arith; is_number = omega arith; is_count = rest.is_count }
]

with_coll_sound : (d : Draft) (name : List ℕ) (shape : ℕ × Option ℕ) (datatype elements : ℕ) → IsSound d
    → datatype < length (counts_of d) → get_or (counts_of d) datatype 0 ≡ elements
    → 1 ≤ tile_count shape.0 shape.1 → tile_count shape.0 shape.1 ≤ 65536
    → d.elements + tile_count shape.0 shape.1 * elements ≤ 16777216
    → IsSound (with_coll d name shape datatype elements)
with_coll_sound d name shape datatype elements sound within is some few room =
    let count = tile_count shape.0 shape.1 in
    let coll : GrowingColl = record { name = name; shape = shape; datatype = datatype; elements = elements; tiles = replicate count None } in
    let size : length (replicate {A = Option (List ℤ)} count None) ≡ count = length-replicate count None in
    record {
      types_at_most = sound.types_at_most;
      counts = sound.counts;
      colls = each_push (IsSoundColl (counts_of d)) d.colls coll sound.colls
          (record {
            datatype = within;
            elements = is;
            has_tiles = some;
            tiles_at_most = few;
            all_tiles =
                size;
            lengths = all_replicate (HasLength elements) count None (length-replicate elements (pos 0));
          });
      total = sum_by_push elements_in d.colls coll ∙ ap (λ n. n + elements_in coll) sound.total ∙ ap (λ n. d.elements + n * elements) size;
      at_most = room;
    }

-- a shape has 1 to 65,536 tiles
record HasTiles (shape : ℕ × Option ℕ) : Type 0 where
  some : 1 ≤ tile_count shape.0 shape.1
  few : tile_count shape.0 shape.1 ≤ 65536

abbrev IsSide : ℕ → Type 0
IsSide n = (1 ≤ n) × (n ≤ 65536)

side_parts : (z : ℤ) (n : ℕ) → side z ≡ Some n → IsSide n
side_parts (negsuc m) n e = absurd cc
side_parts (pos m) n e = elim (chosen (nat_le 1 m && nat_le m 65536) (Some m) None (Some n) e) [
  | inl w ↦
      let same : m ≡ n = (let s : ◌≡◌ {A = Option ℕ} (Some m) (Some n) = w.1 in cc) in
      let tests = and_parts (nat_le 1 m) (nat_le m 65536) w.0 in
      let low = leb-true 1 m tests.0 in
      let high = leb-true m 65536 tests.1 in
      (omega arith, omega arith)
  | inr w ↦ absurd (let s : ◌≡◌ {A = Option ℕ} None (Some n) = w.1 in cc)
]

line_has : (o : Option ℕ) (shape : ℕ × Option ℕ) → ((n : ℕ) → o ≡ Some n → IsSide n) → option_map (λ (r : ℕ). (r, None)) o ≡ Some shape → HasTiles shape
line_has None shape within e = absurd cc
line_has (Some r) shape within e =
    let same : (r, None) ≡ shape = (let s : ◌≡◌ {A = Option (ℕ × Option ℕ)} (Some (r, None)) (Some shape) = e in cc) in
    let parts = within r refl in
    subst HasTiles same (record { some = parts.0; few = parts.1 })

matrix_has : (o p : Option ℕ) (shape : ℕ × Option ℕ) → ((n : ℕ) → o ≡ Some n → IsSide n) → ((n : ℕ) → p ≡ Some n → IsSide n)
    → option_and_then (λ (r : ℕ). option_and_then (λ (c : ℕ). if nat_le (r * c) 65536 then Some (r, Some c) else None) p) o ≡ Some shape → HasTiles shape
matrix_has None p shape os ps e = absurd cc
matrix_has (Some r) None shape os ps e = absurd cc
matrix_has (Some r) (Some c) shape os ps e = elim (chosen (nat_le (r * c) 65536) (Some (r, Some c)) None (Some shape) e) [
  | inl w ↦
      let same : (r, Some c) ≡ shape = (let s : ◌≡◌ {A = Option (ℕ × Option ℕ)} (Some (r, Some c)) (Some shape) = w.1 in cc) in
      let rows = os r refl in
      let cols = ps c refl in
      subst HasTiles same (record { some = mul-pos rows.0 cols.0; few = leb-true (r * c) 65536 w.0 })
  | inr w ↦ absurd (let s : ◌≡◌ {A = Option (ℕ × Option ℕ)} None (Some shape) = w.1 in cc)
]

shape_has : (rows : ℤ) (cols : Option ℤ) (shape : ℕ × Option ℕ) → shape_of rows cols ≡ Some shape → HasTiles shape
shape_has rows None shape e = line_has (side rows) shape (side_parts rows) e
shape_has rows (Some cols) shape e = matrix_has (side rows) (side cols) shape (side_parts rows) (side_parts cols) e

-- the shape and the type that a collection asked for
record IsSizeOf (d : Draft) (size : AskedColl) : Type 0 where
  within : size.datatype < length (counts_of d)
  is : get_or (counts_of d) size.datatype 0 ≡ size.elements
  tiles : HasTiles size.shape
  room : d.elements + tile_count size.shape.0 size.shape.1 * size.elements ≤ 16777216

sized_is : (d : Draft) (type : List ℕ) (fields : List (List ℕ)) (at : ℕ) (size : AskedColl) → asked_coll d type fields at ≡ Ok size → IsSizeOf d size
sized_is d type fields at size is =
    let a = asked d type fields at size is in
    let known = a.known in
    let shape = a.shape in
    let place = type_at type 0 ((default_type, d.elems) ∷ d.types) known a.is_type in
    let number = place.is_number in
    let within = place.within in
    let count : length (counts_of d) ≡ length ((default_type, d.elems) ∷ d.types) =
    length-map ((default_type, d.elems) ∷ d.types) (λ (type : List ℕ × ℕ). type.1) in
    let here : known.0 ≡ place.place = omega arith in
    subst (IsSizeOf d) (sym a.made)
    (record {
      within = omega arith;
      is = ap (λ n. get_or (counts_of d) n 0) here ∙ place.is_count;
      tiles = shape_has a.rows a.cols shape a.is_shape;
      room = leb-true (d.elements + tile_count shape.0 shape.1 * known.1) 16777216 a.room;
    })

coll_of_sound : (d e : Draft) (type : List ℕ) (fields : List (List ℕ)) (at : ℕ) → IsSound d → coll_of d type fields at ≡ Ok e → IsSound e
coll_of_sound d e type fields at sound is =
    by_test (is_name type && is_name (field fields at))
    (λ h. let is = rw h at is in
    by_test (is_new d (field fields at))
    (λ h. let is = rw h at is in
    by_result (asked_coll d type fields (at + 1))
    (λ size hs. let is = rw hs at is in
    let parts = sized_is d type fields (at + 1) size hs in
    subst IsSound (same_Ok _ _ is) (with_coll_sound d (field fields at) size.shape size.datatype size.elements sound
    parts.within parts.is parts.tiles.some parts.tiles.few parts.room))
    (λ code hs. let s = rw hs at is in no_value s))
    (λ h. let s = rw h at is in no_value s))
    (λ h. let s = rw h at is in no_value s)

pub coll_sound : (d e : Draft) (fields : List (List ℕ)) → IsSound d → coll_record d fields ≡ Ok e → IsSound e
coll_sound d e fields sound is =
    by_test ((length fields == 3) || (length fields == 4))
    (λ h. let is = rw h at is in
    coll_of_sound d e default_type fields 1 sound is)
    (λ h. let s = rw h at is in no_value s)

pub collof_sound : (d e : Draft) (fields : List (List ℕ)) → IsSound d → collof_record d fields ≡ Ok e → IsSound e
collof_sound d e fields sound is =
    by_test ((length fields == 4) || (length fields == 5))
    (λ h. let is = rw h at is in
    coll_of_sound d e (field fields 1) fields 2 sound is)
    (λ h. let s = rw h at is in no_value s)
