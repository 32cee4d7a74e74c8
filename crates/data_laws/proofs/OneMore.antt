-- A record without a fault, added to the data of the records before it, makes the data of all of them.
use Rattle.std.specs.Prelude.{◌==◌, ◌&&◌, ◌||◌, nat_le, nat_lt}
use Rattle.std.proofs.Common.{◌≡◌, ℕ, ◌+◌, ℤ, Bool, true, false, not, List, [], ◌∷◌, ◌++◌, length, map, slice_get}
use Rattle.std.proofs.Common.{codes, bytes_eq, Option, Some, None, is_some, option_map, Ok, refl, sym, ◌∙◌, ap, subst}
use Rattle.std.specs.List.{AllByRecursion, filter_map, list_any, sum_by}
use Rattle.std.proofs.lemmas.Bool.{cond-true, false≢true, or_from, or_left, or_right}
use Rattle.std.proofs.lemmas.List.{map-append}
use Rattle.std.proofs.lemmas.List.Sums.{sum_by_push}
use Rattle.std.proofs.lemmas.Option.{option_and_then_some}
use Rattle.coll_data.specs.Types.{default_type}
use Rattle.coll_data.specs.Tiles.{tile_index}
use Rattle.data_read.specs.Fields.{field, is_name, whole, begins}
use Rattle.data_read.specs.Draft.{GrowingColl, Draft, coll_index, coll_named, is_new, opened, type_among, type_named, with_coll, with_int, with_tile, with_type}
use Rattle.data_read.specs.Records.{AskedColl, asked_coll, coll_of, coll_record, collof_record, element_count}
use Rattle.data_read.specs.Records.{free_index, int_record, later_record, new_tile, tile_record, type_record}
use Rattle.data_laws.specs.WholeRecords.{Heading, Record, all_types, data_of_records, declares, elements_of, heading_at}
use Rattle.data_laws.specs.WholeRecords.{heading_in, headings_of, tile_index_in, int_in, ints_of, name_at, shape_in}
use Rattle.data_laws.specs.WholeRecords.{type_in, type_name_in, types_of, with_tiles}
use Rattle.data_read.proofs.CallerLemmas.{IsAsked, IsNewTile, accepted_tile, asked, by_option, coll_is_there, no_value}
use Rattle.list_lemmas.proofs.Truth.{by_test}
use Rattle.list_lemmas.proofs.Options.{by_result, same_Ok}
use Rattle.list_lemmas.proofs.Places.{each_push, each_weaker}
use Rattle.list_lemmas.proofs.Texts.{bytes_eq-apart}
use Rattle.data_laws.proofs.WholeLists.{kept_push, kept_same, left_out}
use Rattle.data_laws.proofs.Headings.{AreApart, HasKnownType, IsOfKnown, apart_push, colls_kept, heading_kept}
use Rattle.data_laws.proofs.Headings.{name_kept, new_coll, no_name, some_name, type_kept}
use Rattle.data_laws.proofs.TileChanges.{Gives, tile_among}

-- what holds for records without a fault: each type and each collection that one of them names is that of an earlier
-- one
pub record AreOrdered (elems : ℕ) (records : List Record) : Type 0 where
  pub known : AllByRecursion (HasKnownType (all_types elems records)) records
  pub named : AllByRecursion (IsOfKnown (headings_of elems records)) records
  pub apart : AreApart (headings_of elems records)

-- the data after one more record are those of all records
pub record IsOneMore (elems : ℕ) (records : List Record) (fields : Record) (e : Draft) : Type 0 where
  pub is : e ≡ data_of_records elems (records ++ fields ∷ [])
  pub ordered : AreOrdered elems (records ++ fields ∷ [])

-- a record of neither a collection nor a tile
record IsPlain (fields : Record) : Type 0 where
  declares_none : declares fields ≡ false
  no_tile : begins (codes "tile") fields ≡ false

plain : (fields : Record) → begins (codes "coll") fields ≡ false → begins (codes "collof") fields ≡ false
    → begins (codes "tile") fields ≡ false → IsPlain fields
plain fields c o t = record { declares_none = or_from (begins (codes "coll") fields) (begins (codes "collof") fields) c o; no_tile = t }

no_heading : (fields : Record) → declares fields ≡ false → (types : List (List ℕ × ℕ)) → heading_in types fields ≡ None
no_heading fields none types = rw none refl

-- ---- types

type_made : (elems : ℕ) (records : List Record) (fields : Record) (n : ℕ) → AreOrdered elems records
    → begins (codes "elems") fields ≡ true → element_count (field fields 2) ≡ Some n
    → IsOneMore elems records fields (with_type (data_of_records elems records) (field fields 1) n)
type_made elems records fields n ordered word count =
    let no_int = bytes_eq-apart (field fields 0) (codes "elems") (codes "int") word refl in
    let c = bytes_eq-apart (field fields 0) (codes "elems") (codes "coll") word refl in
    let o = bytes_eq-apart (field fields 0) (codes "elems") (codes "collof") word refl in
    let t = bytes_eq-apart (field fields 0) (codes "elems") (codes "tile") word refl in
    let none = (plain fields c o t).declares_none in
    let more = records ++ fields ∷ [] in
    let new : List ℕ × ℕ = (field fields 1, n) in
    let old = all_types elems records in
    let types : types_of more ≡ types_of records ++ new ∷ [] = kept_push type_in records fields new (rw (word, count) refl) in
    let ints : ints_of more ≡ ints_of records = left_out int_in records fields (rw no_int refl) in
    let all : all_types elems more ≡ old ++ new ∷ [] = ap (λ (ts : List (List ℕ × ℕ)). (default_type, elems) ∷ ts) types in
    let same = kept_same (heading_in (old ++ new ∷ [])) (heading_in old) records
    (each_weaker (HasKnownType old) (λ (r : Record). heading_in (old ++ new ∷ []) r ≡ heading_in old r) records (heading_kept old new) ordered.known) in
    let headings : headings_of elems more ≡ headings_of elems records =
    left_out (heading_in (all_types elems more)) records fields (no_heading fields none (all_types elems more))
    ∙ ap (λ (ts : List (List ℕ × ℕ)). filter_map (heading_in ts) records) all ∙ same in
    let colls : map (with_tiles more) (headings_of elems more) ≡ map (with_tiles records) (headings_of elems records) =
    ap (map (with_tiles more)) headings ∙ colls_kept records fields (headings_of elems records) t in
    let total : sum_by elements_of (headings_of elems more) ≡ sum_by elements_of (headings_of elems records) = ap (sum_by elements_of) headings in
    record {
      is = λ i. record { types = sym types i; elems = elems; ints = sym ints i; colls = sym colls i; elements = sym total i };
      ordered = record {
        known = subst (λ (ts : List (List ℕ × ℕ)). AllByRecursion (HasKnownType ts) more) (sym all)
            (each_push (HasKnownType (old ++ new ∷ [])) records fields
            (each_weaker (HasKnownType old) (HasKnownType (old ++ new ∷ [])) records
            (λ r has is. let found = has is in (found.0, type_kept (type_name_in r) 0 old new found.0 found.1)) ordered.known)
            (λ is. absurd (false≢true (sym none ∙ is))));
        named = subst (λ (hs : List Heading). AllByRecursion (IsOfKnown hs) more) (sym headings)
            (each_push (IsOfKnown (headings_of elems records)) records fields ordered.named (λ is. absurd (false≢true (sym t ∙ is))));
        apart = subst AreApart (sym headings) ordered.apart;
      };
    }

pub type_more : (elems : ℕ) (records : List Record) (fields : Record) (e : Draft) → AreOrdered elems records
    → begins (codes "elems") fields ≡ true → type_record (data_of_records elems records) fields ≡ Ok e
    → IsOneMore elems records fields e
type_more elems records fields e ordered word is =
    let d = data_of_records elems records in
    by_test (length fields == 2)
    (λ h. let s = rw h at is in no_value s)
    (λ h. let is = rw h at is in
    by_test (length fields == 3)
    (λ h. let is = rw h at is in
    by_option (element_count (field fields 2))
    (λ h. let s = rw h at is in no_value s)
    (λ n hn. let is = rw hn at is in
    by_test (is_name (field fields 1))
    (λ h. let is = rw h at is in
    by_option (type_named d (field fields 1))
    (λ h. let is = rw h at is in
    by_test (nat_lt (length (types_of records)) 15)
    (λ h. let is = rw h at is in
    subst (IsOneMore elems records fields) (same_Ok (with_type d (field fields 1) n) e is) (type_made elems records fields n ordered word hn))
    (λ h. let s = rw h at is in no_value s))
    (λ k h. let s = rw h at is in no_value s))
    (λ h. let s = rw h at is in no_value s)))
    (λ h. let s = rw h at is in no_value s))

-- ---- records that add no type

-- the types stay the same
same_types : (elems : ℕ) (records : List Record) (fields : Record) → begins (codes "elems") fields ≡ false
    → types_of (records ++ fields ∷ []) ≡ types_of records
same_types elems records fields other = left_out type_in records fields (rw other refl)

same_all : (elems : ℕ) (records : List Record) (fields : Record) → begins (codes "elems") fields ≡ false
    → all_types elems (records ++ fields ∷ []) ≡ all_types elems records
same_all elems records fields other = ap (λ (ts : List (List ℕ × ℕ)). (default_type, elems) ∷ ts) (same_types elems records fields other)

same_headings : (elems : ℕ) (records : List Record) (fields : Record) → begins (codes "elems") fields ≡ false
    → declares fields ≡ false → headings_of elems (records ++ fields ∷ []) ≡ headings_of elems records
same_headings elems records fields other none =
    left_out (heading_in (all_types elems (records ++ fields ∷ []))) records fields (no_heading fields none (all_types elems (records ++ fields ∷ [])))
    ∙ ap (λ (ts : List (List ℕ × ℕ)). filter_map (heading_in ts) records) (same_all elems records fields other)

still_ordered : (elems : ℕ) (records : List Record) (fields : Record) → AreOrdered elems records
    → begins (codes "elems") fields ≡ false → declares fields ≡ false → IsOfKnown (headings_of elems records) fields
    → AreOrdered elems (records ++ fields ∷ [])
still_ordered elems records fields ordered other none known =
    let headings = same_headings elems records fields other none in
    record {
      known = subst (λ (ts : List (List ℕ × ℕ)). AllByRecursion (HasKnownType ts) (records ++ fields ∷ [])) (sym (same_all elems records fields other))
          (each_push (HasKnownType (all_types elems records)) records fields ordered.known (λ is. absurd (false≢true (sym none ∙ is))));
      named = subst (λ (hs : List Heading). AllByRecursion (IsOfKnown hs) (records ++ fields ∷ [])) (sym headings)
          (each_push (IsOfKnown (headings_of elems records)) records fields ordered.named known);
      apart = subst AreApart (sym headings) ordered.apart;
    }

-- ---- integers

int_made : (elems : ℕ) (records : List Record) (fields : Record) (z : ℤ) → AreOrdered elems records
    → begins (codes "int") fields ≡ true → whole (field fields 2) ≡ Some z
    → IsOneMore elems records fields (with_int (data_of_records elems records) (field fields 1) z)
int_made elems records fields z ordered word value =
    let other = bytes_eq-apart (field fields 0) (codes "int") (codes "elems") word refl in
    let c = bytes_eq-apart (field fields 0) (codes "int") (codes "coll") word refl in
    let o = bytes_eq-apart (field fields 0) (codes "int") (codes "collof") word refl in
    let t = bytes_eq-apart (field fields 0) (codes "int") (codes "tile") word refl in
    let none = (plain fields c o t).declares_none in
    let more = records ++ fields ∷ [] in
    let types = same_types elems records fields other in
    let ints : ints_of more ≡ ints_of records ++ (field fields 1, z) ∷ [] = kept_push int_in records fields (field fields 1, z) (rw (word, value) refl) in
    let headings = same_headings elems records fields other none in
    let colls : map (with_tiles more) (headings_of elems more) ≡ map (with_tiles records) (headings_of elems records) =
    ap (map (with_tiles more)) headings ∙ colls_kept records fields (headings_of elems records) t in
    let total : sum_by elements_of (headings_of elems more) ≡ sum_by elements_of (headings_of elems records) = ap (sum_by elements_of) headings in
    record {
      is = λ i. record { types = sym types i; elems = elems; ints = sym ints i; colls = sym colls i; elements = sym total i };
      ordered = still_ordered elems records fields ordered other none (λ is. absurd (false≢true (sym t ∙ is)));
    }

pub int_more : (elems : ℕ) (records : List Record) (fields : Record) (e : Draft) → AreOrdered elems records
    → begins (codes "int") fields ≡ true → int_record (data_of_records elems records) fields ≡ Ok e
    → IsOneMore elems records fields e
int_more elems records fields e ordered word is =
    let d = data_of_records elems records in
    by_test (length fields == 3)
    (λ h. let is = rw h at is in
    by_test (is_name (field fields 1))
    (λ h. let is = rw h at is in
    by_test (is_new d (field fields 1))
    (λ h. let is = rw h at is in
    by_option (whole (field fields 2))
    (λ h. let s = rw h at is in no_value s)
    (λ z hz. let is = rw hz at is in
    subst (IsOneMore elems records fields) (same_Ok (with_int d (field fields 1) z) e is) (int_made elems records fields z ordered word hz)))
    (λ h. let s = rw h at is in no_value s))
    (λ h. let s = rw h at is in no_value s))
    (λ h. let s = rw h at is in no_value s)

-- ---- collections

heading_is : (types : List (List ℕ × ℕ)) (fields : Record) (known : ℕ × ℕ) (shape : ℕ × Option ℕ)
    → declares fields ≡ true → type_among (type_name_in fields) 0 types ≡ Some known
    → shape_in fields (name_at fields + 1) ≡ Some shape
    → heading_in types fields ≡ Some (record { name = field fields (name_at fields); shape = shape; datatype = known.0; elements = known.1 })
heading_is types fields known shape word type is =
    cond-true (declares fields) (heading_at (type_among (type_name_in fields) 0 types) fields (name_at fields)) None word
    ∙ ap (λ (o : Option (ℕ × ℕ)). heading_at o fields (name_at fields)) type
    ∙ ap (option_map (λ (s : ℕ × Option ℕ). record { name = field fields (name_at fields); shape = s; datatype = known.0; elements = known.1 })) is

new_name : (d : Draft) (name : List ℕ) → is_new d name ≡ true → coll_index name d.colls ≡ None
new_name d name new = none_of (coll_index name d.colls) (list_any (λ (int : List ℕ × ℤ). bytes_eq name int.0) d.ints) new
  where
    none_of : (o : Option ℕ) (b : Bool) → not (is_some o || b) ≡ true → o ≡ None
    none_of None b e = refl
    none_of (Some m) b e = absurd cc

coll_made : (elems : ℕ) (records : List Record) (fields : Record) (known : ℕ × ℕ) (shape : ℕ × Option ℕ)
    → AreOrdered elems records → begins (codes "elems") fields ≡ false → begins (codes "int") fields ≡ false
    → begins (codes "tile") fields ≡ false
    → declares fields ≡ true → type_among (type_name_in fields) 0 (all_types elems records) ≡ Some known → shape_in fields (name_at fields + 1) ≡ Some shape
    → coll_index (field fields (name_at fields)) (map (with_tiles records) (headings_of elems records)) ≡ None
    → IsOneMore elems records fields (with_coll (data_of_records elems records) (field fields (name_at fields)) shape known.0 known.1)
coll_made elems records fields known shape ordered other no_int t word type is new =
    let more = records ++ fields ∷ [] in
    let hs = headings_of elems records in
    let h : Heading = record { name = field fields (name_at fields); shape = shape; datatype = known.0; elements = known.1 } in
    let types = same_types elems records fields other in
    let all = same_all elems records fields other in
    let ints : ints_of more ≡ ints_of records = left_out int_in records fields (rw no_int refl) in
    let headings : headings_of elems more ≡ hs ++ h ∷ [] =
    ap (λ (ts : List (List ℕ × ℕ)). filter_map (heading_in ts) more) all
    ∙ kept_push (heading_in (all_types elems records)) records fields h (heading_is (all_types elems records) fields known shape word type is) in
    let free = no_name records h.name hs new in
    let last = new_coll records fields hs h t free ordered.named in
    let front = colls_kept records fields hs t in
    let colls : map (with_tiles more) (headings_of elems more) ≡
    (with_coll (data_of_records elems records) (field fields (name_at fields)) shape known.0 known.1).colls =
    ap (map (with_tiles more)) headings ∙ map-append (with_tiles more) hs (h ∷ []) ∙ (λ i. front i ++ last i ∷ []) in
    let total : sum_by elements_of (headings_of elems more) ≡ sum_by elements_of hs + elements_of h = ap
    (sum_by elements_of) headings ∙ sum_by_push elements_of hs h in
    record {
      is = λ i. record { types = sym types i; elems = elems; ints = sym ints i; colls = sym colls i; elements = sym total i };
      ordered = record {
        known = subst (λ (ts : List (List ℕ × ℕ)). AllByRecursion (HasKnownType ts) more) (sym all)
            (each_push (HasKnownType (all_types elems records)) records fields ordered.known (λ _. (known, type)));
        named = subst (λ (gs : List Heading). AllByRecursion (IsOfKnown gs) more) (sym headings)
            (each_push (IsOfKnown (hs ++ h ∷ [])) records fields
            (each_weaker (IsOfKnown hs) (IsOfKnown (hs ++ h ∷ [])) records (λ r has tile. name_kept (field r 1) hs h (has tile)) ordered.named)
            (λ tile. absurd (false≢true (sym t ∙ tile))));
        apart = subst AreApart (sym headings) (apart_push hs h ordered.apart free);
      };
    }

-- the shape that a collection asked for
shape_asked : (d : Draft) (type : List ℕ) (fields : Record) (at : ℕ) (size : AskedColl)
    → (parts : IsAsked d type fields at size) → shape_in fields at ≡ Some parts.shape
shape_asked d type fields at size parts = rw (parts.are_rows, parts.are_columns) parts.is_shape

coll_of_more : (elems : ℕ) (records : List Record) (fields : Record) (e : Draft) → AreOrdered elems records
    → begins (codes "elems") fields ≡ false → begins (codes "int") fields ≡ false → begins (codes "tile") fields ≡ false
    → declares fields ≡ true → coll_of (data_of_records elems records) (type_name_in fields) fields (name_at fields) ≡ Ok e → IsOneMore elems records fields e
coll_of_more elems records fields e ordered other no_int t word is =
    let d = data_of_records elems records in
    let name = field fields (name_at fields) in
    by_test (is_name (type_name_in fields) && is_name name)
    (λ h. let is = rw h at is in
    by_test (is_new d name)
    (λ new. let is = rw new at is in
    by_result (asked_coll d (type_name_in fields) fields (name_at fields + 1))
    (λ size hs. let is = rw hs at is in
    let parts = asked d (type_name_in fields) fields (name_at fields + 1) size hs in
    let made = coll_made elems records fields parts.known parts.shape ordered other no_int t word parts.is_type
    (shape_asked d (type_name_in fields) fields (name_at fields + 1) size parts) (new_name d name new) in
    let same = ap (λ (s : AskedColl). with_coll d name s.shape s.datatype s.elements) (sym parts.made)
    ∙ same_Ok (with_coll d name size.shape size.datatype size.elements) e is in
    subst (IsOneMore elems records fields) same made)
    (λ code h. let s = rw h at is in no_value s))
    (λ h. let s = rw h at is in no_value s))
    (λ h. let s = rw h at is in no_value s)

pub coll_more : (elems : ℕ) (records : List Record) (fields : Record) (e : Draft) → AreOrdered elems records
    → begins (codes "coll") fields ≡ true → coll_record (data_of_records elems records) fields ≡ Ok e
    → IsOneMore elems records fields e
coll_more elems records fields e ordered word is =
    let other = bytes_eq-apart (field fields 0) (codes "coll") (codes "elems") word refl in
    let no_int = bytes_eq-apart (field fields 0) (codes "coll") (codes "int") word refl in
    let t = bytes_eq-apart (field fields 0) (codes "coll") (codes "tile") word refl in
    by_test ((length fields == 3) || (length fields == 4))
    (λ h. let is = rw h at is in
    coll_of_more elems records fields e ordered other no_int t (or_left (begins (codes "coll") fields) (begins (codes "collof") fields) word) (rw word is))
    (λ h. let s = rw h at is in no_value s)

pub collof_more : (elems : ℕ) (records : List Record) (fields : Record) (e : Draft) → AreOrdered elems records
    → begins (codes "collof") fields ≡ true → collof_record (data_of_records elems records) fields ≡ Ok e
    → IsOneMore elems records fields e
collof_more elems records fields e ordered word is =
    let d = data_of_records elems records in
    let other = bytes_eq-apart (field fields 0) (codes "collof") (codes "elems") word refl in
    let no_int = bytes_eq-apart (field fields 0) (codes "collof") (codes "int") word refl in
    let c = bytes_eq-apart (field fields 0) (codes "collof") (codes "coll") word refl in
    let t = bytes_eq-apart (field fields 0) (codes "collof") (codes "tile") word refl in
    by_test ((length fields == 4) || (length fields == 5))
    (λ h. let is = rw h at is in
    let type : type_name_in fields ≡ field fields 1 = rw c refl in
    let at : name_at fields ≡ 2 = rw c refl in
    let same : coll_of d (type_name_in fields) fields (name_at fields) ≡ coll_of d (field fields 1) fields 2 = (λ i. coll_of d (type i) fields (at i)) in
    coll_of_more elems records fields e ordered other no_int t (or_right (begins (codes "coll") fields) (begins (codes "collof") fields) word) (same ∙ is))
    (λ h. let s = rw h at is in no_value s)

-- ---- tiles

-- the index of the collection with a name
index_is : (d : Draft) (name : List ℕ) (known : ℕ × GrowingColl) → coll_named d name ≡ Some known → coll_index name d.colls ≡ Some known.0
index_is d name known e =
    option_and_then_some (λ at. option_map (λ coll. (at, coll)) (slice_get d.colls at)) (coll_index name d.colls) known e
    (λ at is more. is ∙ ap (λ (n : ℕ). Some n) (there at (slice_get d.colls at) more))
  where
    there : (at : ℕ) (o : Option GrowingColl) → option_map (λ (coll : GrowingColl). (at, coll)) o ≡ Some known → at ≡ known.0
    there at None more = absurd cc
    there at (Some coll) more =
        let same : (at, coll) ≡ known = (let s : ◌≡◌ {A = Option (ℕ × GrowingColl)} (Some (at, coll)) (Some known) = more in cc) in
        ap (λ (k : ℕ × GrowingColl). k.0) same

-- the place of a record's tile, which no earlier record has
record IsFree (coll : GrowingColl) (i j : ℤ) (index : ℕ) : Type 0 where
  is : tile_index coll.shape.0 coll.shape.1 i j ≡ Some index
  free : slice_get coll.tiles index ≡ Some None

is_free : (coll : GrowingColl) (i j : ℤ) (index : ℕ) → free_index coll i j ≡ Ok index → IsFree coll i j index
is_free coll i j index is =
    by_option (tile_index coll.shape.0 coll.shape.1 i j)
    (λ h. let s = rw h at is in no_value s)
    (λ n hn. let is = rw hn at is in
    by_option (slice_get coll.tiles n)
    (λ h. let s = rw h at is in no_value s)
    (λ tile ht. let is = rw ht at is in
    by_option tile
    (λ none. let is = rw none at is in
    let same = same_Ok n index is in
    let at_n : IsFree coll i j n = record { is = hn; free = ht ∙ ap (λ (o : Option (List ℤ)). Some o) none } in
    subst (IsFree coll i j) same at_n)
    (λ given some. let s = rw some at is in no_value s)))

gives_tile : (fields : Record) (coll : GrowingColl) (tile : ℕ × List ℤ) → begins (codes "tile") fields ≡ true
    → (parts : IsNewTile fields coll tile) → Gives fields coll parts.index parts.values
gives_tile fields coll tile word parts =
    let place = is_free coll parts.row parts.col parts.index parts.is_free in
    let here : tile_index_in coll.shape fields ≡ Some parts.index = rw (parts.is_row, parts.is_column) place.is in
    record { word = word; place = here; all = parts.are_values; free = place.free }

tile_made : (elems : ℕ) (records : List Record) (fields : Record) (at : ℕ) (coll : GrowingColl) (index : ℕ)
    (values : List ℤ) → AreOrdered elems records → Gives fields coll index values
    → coll_index (field fields 1) (map (with_tiles records) (headings_of elems records)) ≡ Some at
    → slice_get (map (with_tiles records) (headings_of elems records)) at ≡ Some coll
    → IsOneMore elems records fields (with_tile (data_of_records elems records) at coll index (opened coll.elements values))
tile_made elems records fields at coll index values ordered gives found got =
    let other = bytes_eq-apart (field fields 0) (codes "tile") (codes "elems") gives.word refl in
    let no_int = bytes_eq-apart (field fields 0) (codes "tile") (codes "int") gives.word refl in
    let c = bytes_eq-apart (field fields 0) (codes "tile") (codes "coll") gives.word refl in
    let o = bytes_eq-apart (field fields 0) (codes "tile") (codes "collof") gives.word refl in
    let none = or_from (begins (codes "coll") fields) (begins (codes "collof") fields) c o in
    let more = records ++ fields ∷ [] in
    let hs = headings_of elems records in
    let types = same_types elems records fields other in
    let ints : ints_of more ≡ ints_of records = left_out int_in records fields (rw no_int refl) in
    let headings = same_headings elems records fields other none in
    let colls : map (with_tiles more) (headings_of elems more) ≡ (with_tile (data_of_records elems records) at coll index (opened coll.elements values)).colls =
    ap (map (with_tiles more)) headings ∙ tile_among records fields hs at coll index values ordered.apart found got gives in
    let total : sum_by elements_of (headings_of elems more) ≡ sum_by elements_of hs = ap (sum_by elements_of) headings in
    record {
      is = λ i. record { types = sym types i; elems = elems; ints = sym ints i; colls = sym colls i; elements = sym total i };
      ordered = still_ordered elems records fields ordered other none (λ _. some_name records (field fields 1) hs at found);
    }

pub tile_more : (elems : ℕ) (records : List Record) (fields : Record) (e : Draft) → AreOrdered elems records
    → begins (codes "tile") fields ≡ true → tile_record (data_of_records elems records) fields ≡ Ok e
    → IsOneMore elems records fields e
tile_more elems records fields e ordered word is =
    let d = data_of_records elems records in
    by_test (nat_le 4 (length fields))
    (λ h. let is = rw h at is in
    by_test (is_name (field fields 1))
    (λ h. let is = rw h at is in
    by_option (coll_named d (field fields 1))
    (λ h. let s = rw h at is in no_value s)
    (λ known hk. let is = rw hk at is in
    by_result (new_tile fields known.1)
    (λ tile ht. let is = rw ht at is in
    let parts = accepted_tile fields known.1 tile ht in
    let made = tile_made elems records fields known.0 known.1 parts.index parts.values ordered
    (gives_tile fields known.1 tile word parts) (index_is d (field fields 1) known hk)
    (coll_is_there d (field fields 1) known hk) in
    let same = ap (λ (t : ℕ × List ℤ). with_tile d known.0 known.1 t.0 t.1) (sym parts.made) ∙ same_Ok (with_tile d known.0 known.1 tile.0 tile.1) e is in
    subst (IsOneMore elems records fields) same made)
    (λ code h. let s = rw h at is in no_value s)))
    (λ h. let s = rw h at is in no_value s))
    (λ h. let s = rw h at is in no_value s)

-- ---- any record

pub one_more : (elems : ℕ) (records : List Record) (fields : Record) (e : Draft) → AreOrdered elems records
    → later_record (data_of_records elems records) fields ≡ Ok e → IsOneMore elems records fields e
one_more elems records fields e ordered is =
    by_test (begins (codes "elems") fields)
    (λ h. type_more elems records fields e ordered h (rw h at is))
    (λ h. let is = rw h at is in
    by_test (begins (codes "int") fields)
    (λ h. int_more elems records fields e ordered h (rw h at is))
    (λ h. let is = rw h at is in
    by_test (begins (codes "coll") fields)
    (λ h. coll_more elems records fields e ordered h (rw h at is))
    (λ h. let is = rw h at is in
    by_test (begins (codes "collof") fields)
    (λ h. collof_more elems records fields e ordered h (rw h at is))
    (λ h. let is = rw h at is in
    by_test (begins (codes "tile") fields)
    (λ h. tile_more elems records fields e ordered h (rw h at is))
    (λ h. let is = rw h at is in
    no_value is)))))
