-- The headings of collections, and the tiles of one of them, when one more record follows.
use Rattle.std.proofs.Common.{◌≡◌, ℕ, ◌+◌, ℤ, Bool, true, false, ◌||◌, List, [], ◌∷◌, ◌++◌, map, slice_get, replicate}
use Rattle.std.proofs.Common.{bytes_eq, codes, Option, Some, None, option_map, refl, sym, ◌∙◌, ap, subst, inl, inr}
use Rattle.std.specs.List.{AllByRecursion, list_any, range_with_len}
use Rattle.std.specs.Cmp.Lexicographic.{bytes_decides}
use Rattle.std.proofs.lemmas.Bool.{false≢true, false_from_ne_true, or_from, or_parts}
use Rattle.coll_data.specs.Tiles.{tile_count}
use Rattle.data_read.specs.Draft.{GrowingColl, coll_index, type_among}
use Rattle.data_read.specs.Fields.{field, begins}
use Rattle.data_laws.specs.WholeRecords.{Heading, Record, declares, given_tile, heading_at, heading_in, name_at, tile_in, type_name_in, with_tiles}
use Rattle.data_read.proofs.CallerLemmas.{any_push, by_option}
use Rattle.data_laws.proofs.WholeLists.{all_of, left_out, map_same, none_kept, range_constant, range_same}
use Rattle.list_lemmas.proofs.Truth.{by_test, chosen}
use Rattle.list_lemmas.proofs.Texts.{bytes_eq-sym_false}
use Rattle.list_lemmas.proofs.Options.{none_from_option_map}

-- ---- names

-- no two collections have one name
abbrev pub AreApart : List Heading → Type 0
AreApart [] = Unit {0}
AreApart (h ∷ hs) = (list_any (λ (g : Heading). bytes_eq h.name g.name) hs ≡ false) × AreApart hs

-- one of the collections has this name
abbrev pub has_name : List ℕ → List Heading → Bool
has_name name hs = list_any (λ (h : Heading). bytes_eq name h.name) hs

pub name_kept : (name : List ℕ) (hs : List Heading) (h : Heading) → has_name name hs ≡ true → has_name name (hs ++ h ∷ []) ≡ true
name_kept name [] h is = absurd cc
name_kept name (g ∷ gs) h is = either (bytes_eq name g.name) (has_name name gs) (has_name name (gs ++ h ∷ [])) is (name_kept name gs h)
  where
    either : (a b c : Bool) → (a || b) ≡ true → (b ≡ true → c ≡ true) → (a || c) ≡ true
    either true b c e more = refl
    either false b c e more = more e

pub apart_push : (hs : List Heading) (h : Heading) → AreApart hs → has_name h.name hs ≡ false → AreApart (hs ++ h ∷ [])
apart_push [] h all none = (refl, tt)
apart_push (g ∷ gs) h all none =
    let parts = or_parts (bytes_eq h.name g.name) (has_name h.name gs) none in
    let same : Heading → Bool = λ k. bytes_eq g.name k.name in
    (any_push same gs h ∙ or_from (list_any same gs) (same h) all.0 (bytes_eq-sym_false h.name g.name parts.0), apart_push gs h all.1 parts.1)

-- no collection has the name
pub no_name : (records : List Record) (name : List ℕ) (hs : List Heading) → coll_index name (map (with_tiles records) hs) ≡ None → has_name name hs ≡ false
no_name records name [] none = refl
no_name records name (h ∷ hs) none = elim (chosen (bytes_eq name h.name) (Some 0)
    (option_map (λ n. n + 1) (coll_index name (map (with_tiles records) hs))) None none) [
      | inl here ↦ absurd (let never : ◌≡◌ {A = Option ℕ} (Some 0) None = here.1 in cc)
      | inr later ↦ rw later.0 (no_name records name hs (none_from_option_map (λ (n : ℕ). n + 1) (coll_index name (map (with_tiles records) hs)) later.1))
    ]

-- some collection has the name
pub some_name : (records : List Record) (name : List ℕ) (hs : List Heading) (at : ℕ)
    → coll_index name (map (with_tiles records) hs) ≡ Some at → has_name name hs ≡ true
some_name records name [] at is = absurd cc
some_name records name (h ∷ hs) at is =
    by_test (bytes_eq name h.name)
    (λ here. rw here refl)
    (λ other. let is = rw other at is in
    by_option (coll_index name (map (with_tiles records) hs))
    (λ none. absurd (let never = rw none at is in cc))
    (λ m found. rw other (some_name records name hs m found)))

-- ---- types

-- the type of the record's collection is one of these
abbrev pub HasKnownType : List (List ℕ × ℕ) → Record → Type 0
HasKnownType types fields = declares fields ≡ true → (known : ℕ × ℕ) × (type_among (type_name_in fields) 0 types ≡ Some known)

pub type_kept : (name : List ℕ) (number : ℕ) (types : List (List ℕ × ℕ)) (t : List ℕ × ℕ) (known : ℕ × ℕ)
    → type_among name number types ≡ Some known → type_among name number (types ++ t ∷ []) ≡ Some known
type_kept name number [] t known is = absurd cc
type_kept name number (u ∷ us) t known is =
    by_test (bytes_eq name u.0)
    (λ here. rw here (rw here at is))
    (λ other. rw other (type_kept name (number + 1) us t known (rw other at is)))

pub heading_kept : (types : List (List ℕ × ℕ)) (t : List ℕ × ℕ) (fields : Record) → HasKnownType types fields
    → heading_in (types ++ t ∷ []) fields ≡ heading_in types fields
heading_kept types t fields known =
    by_test (declares fields)
    (λ h.
    let found = known h in
    let is : type_among (type_name_in fields) 0 types ≡ Some found.0 = found.1 in
    let more = type_kept (type_name_in fields) 0 types t found.0 is in
    let same : heading_at (type_among (type_name_in fields) 0 (types ++ t ∷ [])) fields (name_at fields)
    ≡ heading_at (type_among (type_name_in fields) 0 types) fields (name_at fields) =
    ap (λ o. heading_at o fields (name_at fields)) (more ∙ sym is) in
    rw h same)
    (λ h. rw h refl)

-- ---- tiles

-- a collection with these tiles
abbrev pub tiled : Heading → List (Option (List ℤ)) → GrowingColl
tiled h tiles = record { name = h.name; shape = h.shape; datatype = h.datatype; elements = h.elements; tiles = tiles }

abbrev pub places : Heading → List ℕ
places h = range_with_len 0 (tile_count h.shape.0 h.shape.1)

-- a record of no tile of a collection changes none of its tiles
pub tiles_kept : (records : List Record) (fields : Record) (h : Heading) → ((k : ℕ) → tile_in h k fields ≡ None)
    → with_tiles (records ++ fields ∷ []) h ≡ with_tiles records h
tiles_kept records fields h none =
    ap (tiled h)
    (range_same (given_tile h records) (given_tile h (records ++ fields ∷ [])) 0 (tile_count h.shape.0 h.shape.1)
    (λ k above. ap (λ (ts : List (List ℤ)). slice_get ts 0) (left_out (tile_in h k) records fields (none k))))

pub no_tile : (fields : Record) → begins (codes "tile") fields ≡ false → (h : Heading) (k : ℕ) → tile_in h k fields ≡ None
no_tile fields other h k = rw other refl

-- a record with another name has no tile of the collection
pub other_tile : (fields : Record) (h : Heading) → bytes_eq (field fields 1) h.name ≡ false → (k : ℕ) → tile_in h k fields ≡ None
other_tile fields h other k =
    by_test (begins (codes "tile") fields)
    (λ tile. rw (tile, other) refl)
    (λ none. rw none refl)

-- a record of no tile changes no collection
pub colls_kept : (records : List Record) (fields : Record) (hs : List Heading) → begins (codes "tile") fields ≡ false
    → map (with_tiles (records ++ fields ∷ [])) hs ≡ map (with_tiles records) hs
colls_kept records fields hs other =
    map_same (with_tiles (records ++ fields ∷ [])) (with_tiles records) hs
    (all_of (λ (h : Heading). with_tiles (records ++ fields ∷ []) h ≡ with_tiles records h) hs (λ h. tiles_kept records fields h (no_tile fields other h)))

-- if the record is of a tile, one of these collections has its name
abbrev pub IsOfKnown : List Heading → Record → Type 0
IsOfKnown hs fields = begins (codes "tile") fields ≡ true → has_name (field fields 1) hs ≡ true

not_of : (hs : List Heading) (h : Heading) (fields : Record) → has_name h.name hs ≡ false → IsOfKnown hs fields → (k : ℕ) → tile_in h k fields ≡ None
not_of hs h fields new known k =
    by_test (begins (codes "tile") fields)
    (λ tile.
    let other = false_from_ne_true (bytes_eq (field fields 1) h.name)
    (λ same. false≢true (sym new ∙ subst (λ n. has_name n hs ≡ true) ((bytes_decides (field fields 1) h.name).0 same) (known tile))) in
    other_tile fields h other k)
    (λ none. no_tile fields none h k)

all_not_of : (hs : List Heading) (h : Heading) (records : List Record) → has_name h.name hs ≡ false
    → AllByRecursion (IsOfKnown hs) records → (k : ℕ) → AllByRecursion (λ fields. tile_in h k fields ≡ None) records
all_not_of hs h [] new known k = tt
all_not_of hs h (fields ∷ records) new known k = (not_of hs h fields new known.0 k, all_not_of hs h records new known.1 k)

-- a collection with a new name has no tile yet
pub new_coll : (records : List Record) (fields : Record) (hs : List Heading) (h : Heading)
    → begins (codes "tile") fields ≡ false → has_name h.name hs ≡ false → AllByRecursion (IsOfKnown hs) records
    → with_tiles (records ++ fields ∷ []) h ≡ tiled h (replicate (tile_count h.shape.0 h.shape.1) None)
new_coll records fields hs h other new known =
    tiles_kept records fields h (no_tile fields other h)
    ∙ ap (tiled h)
    (range_constant (given_tile h records) None 0 (tile_count h.shape.0 h.shape.1)
    (λ k. ap (λ (ts : List (List ℤ)). slice_get ts 0) (none_kept (tile_in h k) records (all_not_of hs h records new known k))))
