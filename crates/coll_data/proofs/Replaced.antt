-- Data stay well made if a tile is replaced by one with as many numbers.
use Rattle.std.proofs.Common.{◌≡◌, ℕ, zero, suc, ◌+◌, ◌*◌, ℤ, List, [], ◌∷◌, length, set, get_or, Option, Some, None, IfSome, IsSomeAnd, slice_get}
use Rattle.std.proofs.Common.{slice_index, refl, sym, ap, ◌∙◌, subst, arith}
use Rattle.std.specs.Option.{option_map_or}
use Rattle.std.specs.List.{sum_by}
use Rattle.std.proofs.lemmas.List.{length-set}
use Rattle.std.proofs.lemmas.List.Sums.{sum_by-cons}
use Rattle.std.proofs.lemmas.Option.{get_or_from_slice_get}
use Rattle.ptg_base.specs.declared.place.Place.{Place}
use Rattle.coll_data.specs.declared.coll.Coll.{Coll}
use Rattle.coll_data.specs.Data.{Data}
use Rattle.coll_data.specs.Replacing.{coll_with, with_tile_at}
use Rattle.coll_data.specs.Tiles.{HasPlace, IsColumn, IsRow, tile_index}
use Rattle.coll_data.specs.WellMade.{elements_by_type, element_total, IsTileOf, IsWellColl, IsWellMade}
use Rattle.list_lemmas.proofs.Places.{each_at, each_set}

-- a sum stays the same if an element is replaced by one of the same weight
sum_same : {A : Type 0} (f : A → ℕ) (xs : List A) (k : ℕ) (x y : A) → slice_get xs k ≡ Some x → f y ≡ f x → sum_by f (set xs k y) ≡ sum_by f xs
sum_same f [] k x y there e = refl
sum_same f (z ∷ zs) zero x y there e =
    let same : z ≡ x = cc in
    let weights : f y ≡ f z = e ∙ ap f (sym same) in
    sum_by-cons f y zs ∙ ap (λ n. n + sum_by f zs) weights ∙ sym (sum_by-cons f z zs)
sum_same f (z ∷ zs) (suc k) x y there e =
    sum_by-cons f z (set zs k y) ∙ ap (λ n. f z + n) (sum_same f zs k x y there e) ∙ sym (sum_by-cons f z zs)

-- a collection with a tile replaced by one with as many numbers
well_with : (elements : List ℕ) (c : Coll) (o : Option ℕ) (tile : List ℤ) → IsWellColl elements c
    → length tile ≡ slice_index elements c.datatype
    → IsWellColl elements (record c { tiles = option_map_or (λ k. set c.tiles k tile) o c.tiles })
well_with elements c None tile w fits = w
well_with elements c (Some k) tile w fits = record {
  datatype = w.datatype;
  whole = record { has_tiles = w.whole.has_tiles; all_tiles = length-set c.tiles k tile ∙ w.whole.all_tiles };
  tiles_at_most = w.tiles_at_most;
  tile_lengths = each_set (λ (t : List ℤ). length t ≡ slice_index elements c.datatype) c.tiles k tile w.tile_lengths fits;
}

as_many : (c : Coll) (o : Option ℕ) (tile : List ℤ) → length (option_map_or (λ k. set c.tiles k tile) o c.tiles) ≡ length c.tiles
as_many c None tile = refl
as_many c (Some k) tile = length-set c.tiles k tile

-- the data with their collections replaced by these
abbrev having : Data → List Coll → Data
having d colls = record d { colls = colls }

module _ (d : Data) (well : IsWellMade d) (p : Place) (tile : List ℤ) (fits : IsTileOf d p.coll tile) where
  module _ (c : Coll) (there : slice_get d.colls p.coll ≡ Some c) where
    abbrev new_coll : Coll
    new_coll = coll_with c p.i p.j tile

    well_replaced : IsWellMade (having d (set d.colls p.coll new_coll))
    well_replaced =
        let index = tile_index c.shape.0 c.shape.1 p.i p.j in
        let was : IsWellColl (elements_by_type d) c = each_at (IsWellColl (elements_by_type d)) d.colls p.coll c well.colls there in
        let one : length tile ≡ slice_index (elements_by_type d) c.datatype =
        subst (λ o. IfSome o (λ (x : Coll). length tile ≡ slice_index (elements_by_type d) x.datatype)) there fits in
        let now : IsWellColl (elements_by_type d) new_coll = well_with (elements_by_type d) c index tile was one in
        let total : element_total (elements_by_type d) (set d.colls p.coll new_coll) ≡ element_total (elements_by_type d) d.colls =
        sum_same (λ (x : Coll). length x.tiles * slice_index (elements_by_type d) x.datatype) d.colls p.coll c new_coll there
        (ap (λ n. n * slice_index (elements_by_type d) c.datatype) (as_many c index tile)) in
        record {
          types_at_most = well.types_at_most;
          element_counts = well.element_counts;
          colls = each_set (IsWellColl (elements_by_type d)) d.colls p.coll new_coll well.colls now;
          elements_at_most = omega (arith, well.elements_at_most, total);
        }

    replaced_is : having d (set d.colls p.coll new_coll) ≡ with_tile_at d p tile
    replaced_is = ap (λ o. having d (option_map_or (λ (x : Coll). set d.colls p.coll (coll_with x p.i p.j tile)) o d.colls)) (sym there)

-- what `with_tile_at` makes of the data `d`, whose fields are `inside`: among the collections `was`, `old` becomes
-- `new`
pub record IsReplaced (inside d : Data) (p : Place) (tile : List ℤ) (colls : List Coll) : Type 0 where
  pub well_made : IsWellMade (having inside colls)
  pub is : having inside colls ≡ with_tile_at d p tile

module _ (inside d : Data) (view : inside ≡ d) (well : IsWellMade inside) (p : Place) (tile : List ℤ)
    (exists : HasPlace d.colls p) (fits : IsTileOf d p.coll tile) where
  replaced_inside : (colls : List Coll) (old new : Coll) → old ≡ get_or inside.colls p.coll old
      → new ≡ coll_with old p.i p.j tile → colls ≡ set inside.colls p.coll new → IsReplaced inside d p tile colls
  replaced_inside colls old new at put is = by (slice_get inside.colls p.coll) refl (subst (λ (x : Data). HasPlace x.colls p) (sym view) exists)
    where
      fits_inside : IsTileOf inside p.coll tile
      fits_inside = subst (λ (x : Data). IsTileOf x p.coll tile) (sym view) fits

      by : (o : Option Coll) → slice_get inside.colls p.coll ≡ o
          → IsSomeAnd o (λ (c : Coll). IsRow c.shape.0 p.i × IsColumn c.shape.1 p.j)
          → IsReplaced inside d p tile colls
      by None e h = absurd h
      by (Some c) e h =
          let same : old ≡ c = at ∙ get_or_from_slice_get inside.colls p.coll c old e in
          let all : colls ≡ set inside.colls p.coll (coll_with c p.i p.j tile) = is
          ∙ ap (set inside.colls p.coll) (put ∙ ap (λ x. coll_with x p.i p.j tile) same) in
          record {
            well_made = subst (λ xs. IsWellMade (having inside xs)) (sym all) (well_replaced inside well p tile fits_inside c e);
            is = ap (having inside) all ∙ replaced_is inside well p tile fits_inside c e ∙ ap (λ x. with_tile_at x p tile) view;
          }

  pub replaced : (was colls : List Coll) (old new : Coll) → was ≡ inside.colls → old ≡ get_or was p.coll old
      → new ≡ coll_with old p.i p.j tile → colls ≡ set was p.coll new → IsReplaced inside d p tile colls
  replaced was colls old new same at put is =
      replaced_inside colls old new (at ∙ ap (λ xs. get_or xs p.coll old) same) put (is ∙ ap (λ xs. set xs p.coll new) same)
