-- The collections when one more tile is added.
use Rattle.std.proofs.Common.{◌≡◌, ℕ, zero, suc, ◌+◌, ◌<◌, ℤ, true, false, List, [], ◌∷◌, ◌++◌, map, drop, set}
use Rattle.std.proofs.Common.{slice_get, bytes_eq, codes, Option, Some, None, option_map, refl, sym, ◌∙◌, ap, subst}
use Rattle.std.proofs.Common.{inl, inr, arith}
use Rattle.std.specs.List.{filter_map}
use Rattle.std.proofs.lemmas.Bool.{eq-eqb, ne_eqb}
use Rattle.std.proofs.lemmas.List.FromFn.{get_or-map-range_with_len, length-map-range_with_len}
use Rattle.std.proofs.lemmas.Option.{get_or_from_slice_get, slice_get_within}
use Rattle.coll_data.specs.Tiles.{tile_count}
use Rattle.data_read.specs.Draft.{GrowingColl, coll_index, opened}
use Rattle.data_read.specs.Fields.{field, begins}
use Rattle.data_read.specs.Records.{first_value, numbers}
use Rattle.data_laws.specs.WholeRecords.{Heading, Record, given_tile, tile_index_in, tile_in, with_tiles}
use Rattle.list_lemmas.proofs.Truth.{chosen}
use Rattle.list_lemmas.proofs.Places.{each_weaker}
use Rattle.list_lemmas.proofs.Texts.{bytes_eq-apart}
use Rattle.list_lemmas.proofs.Options.{some_from_one_more}
use Rattle.data_laws.proofs.WholeLists.{kept_push, left_out, map_same, none_pass, range_set}
use Rattle.data_laws.proofs.Headings.{AreApart, other_tile, places, tiled, tiles_kept}

no_first : (tiles : List (List ℤ)) → slice_get tiles 0 ≡ None → tiles ≡ []
no_first [] none = refl
no_first (t ∷ ts) none = absurd cc

-- what the record of a tile shows about the collection that it names
pub record Gives (fields : Record) (coll : GrowingColl) (index : ℕ) (values : List ℤ) : Type 0 where
  pub word : begins (codes "tile") fields ≡ true
  pub place : tile_index_in coll.shape fields ≡ Some index
  pub all : numbers (drop (first_value coll.shape.1) fields) ≡ Some values
  pub free : slice_get coll.tiles index ≡ Some None

-- the collection with this tile
abbrev pub changed : GrowingColl → ℕ → List ℤ → GrowingColl
changed coll index values = record coll { tiles = set coll.tiles index (Some (opened coll.elements values)) }

this_tile : (records : List Record) (fields : Record) (h : Heading) (index : ℕ) (values : List ℤ)
    → bytes_eq (field fields 1) h.name ≡ true → Gives fields (with_tiles records h) index values
    → with_tiles (records ++ fields ∷ []) h ≡ changed (with_tiles records h) index values
this_tile records fields h index values named gives =
    let n = tile_count h.shape.0 h.shape.1 in
    let f = given_tile h records in
    let tile = opened h.elements values in
    let word = gives.word in
    let place = gives.place in
    let all = gives.all in
    let within : index < n = omega (arith, slice_get_within (map f (places h)) index None gives.free, length-map-range_with_len f 0 n) in
    let start : 0 + index ≡ index = omega arith in
    let was : f index ≡ None = sym (get_or-map-range_with_len f 0 n index index None within start)
    ∙ get_or_from_slice_get (map f (places h)) index None None gives.free in
    let before : filter_map (tile_in h index) records ≡ [] = no_first (filter_map (tile_in h index) records) was in
    let one : tile_in h index fields ≡ Some tile = rw (word, named, place, eq-eqb index index refl, all) refl in
    let is : given_tile h (records ++ fields ∷ []) index ≡ Some tile =
    ap (λ (ts : List (List ℤ)). slice_get ts 0) (kept_push (tile_in h index) records fields tile one ∙ ap (λ (ts : List (List ℤ)). ts ++ tile ∷ []) before) in
    let other = λ (k : ℕ) (apart : k ≡ 0 + index → ⊥).
    ap (λ (ts : List (List ℤ)). slice_get ts 0)
    (left_out (tile_in h k) records fields (rw (word, named, place, ne_eqb index k (λ same. apart (sym same ∙ sym start))) refl)) in
    ap (tiled h) (range_set f (given_tile h (records ++ fields ∷ [])) 0 n index (Some tile) within
    (ap (given_tile h (records ++ fields ∷ [])) start ∙ is) other)

others_kept : (records : List Record) (fields : Record) (h : Heading) (hs : List Heading)
    → bytes_eq (field fields 1) h.name ≡ true → AreApart (h ∷ hs)
    → map (with_tiles (records ++ fields ∷ [])) hs ≡ map (with_tiles records) hs
others_kept records fields h hs named apart =
    map_same (with_tiles (records ++ fields ∷ [])) (with_tiles records) hs
    (each_weaker (λ (g : Heading). bytes_eq h.name g.name ≡ false) (λ (g : Heading). with_tiles (records ++ fields ∷ []) g ≡ with_tiles records g) hs
    (λ g other. tiles_kept records fields g (other_tile fields g (bytes_eq-apart (field fields 1) h.name g.name named other)))
    (none_pass (λ (g : Heading). bytes_eq h.name g.name) hs apart.0))

-- the collection with the name changes, and no other one
pub tile_among : (records : List Record) (fields : Record) (hs : List Heading) (at : ℕ) (coll : GrowingColl) (index : ℕ) (values : List ℤ) → AreApart hs
    → coll_index (field fields 1) (map (with_tiles records) hs) ≡ Some at
    → slice_get (map (with_tiles records) hs) at ≡ Some coll → Gives fields coll index values
    → map (with_tiles (records ++ fields ∷ [])) hs ≡ set (map (with_tiles records) hs) at (changed coll index values)
tile_among records fields [] at coll index values apart found got gives = absurd cc
tile_among records fields (h ∷ hs) zero coll index values apart found got gives =
    let same : with_tiles records h ≡ coll = cc in
    elim (chosen (bytes_eq (field fields 1) h.name) (Some 0)
    (option_map (λ n. n + 1) (coll_index (field fields 1) (map (with_tiles records) hs))) (Some 0) found) [
      | inl here ↦
          let this = this_tile records fields h index values here.0 (subst (λ (c : GrowingColl). Gives fields c index values) (sym same) gives) in
          let first = this ∙ ap (λ (c : GrowingColl). changed c index values) same in
          let rest = others_kept records fields h hs here.0 apart in
          λ i. first i ∷ rest i
      | inr later ↦
          let more = some_from_one_more (coll_index (field fields 1) (map (with_tiles records) hs)) 0 later.1 in
          let never = more.2 in
          absurd (omega (arith, never))
    ]
tile_among records fields (h ∷ hs) (suc m) coll index values apart found got gives =
    elim (chosen (bytes_eq (field fields 1) h.name) (Some 0)
    (option_map (λ n. n + 1) (coll_index (field fields 1) (map (with_tiles records) hs))) (Some (suc m)) found) [
      | inl here ↦ absurd (let never : ◌≡◌ {A = Option ℕ} (Some 0) (Some (suc m)) = here.1 in cc)
      | inr later ↦
          let more = some_from_one_more (coll_index (field fields 1) (map (with_tiles records) hs)) (suc m) later.1 in
          let number : more.0 ≡ m = omega (arith, more.2) in
          let first = tiles_kept records fields h (other_tile fields h later.0) in
          let rest = tile_among records fields hs m coll index values apart.1 (more.1 ∙ ap (λ (n : ℕ). Some n) number) got gives in
          λ i. first i ∷ rest i
    ]
