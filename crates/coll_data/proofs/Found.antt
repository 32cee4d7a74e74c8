-- What is found in well made data: the elements of a type, and the tile at a place.
use Rattle.std.proofs.Common.{◌≡◌, ℕ, zero, suc, ◌-◌, ◌<◌, ◌↔◌, ℤ, List, ◌∷◌, length, map, Option, Some, None, IsSome, IfSome, Bor, slice_get}
use Rattle.std.proofs.Common.{slice_index, option_map, option_copied, option_and_then, sym, ap, ◌∙◌, subst, rules, arith}
use Rattle.std.proofs.lemmas.Option.{slice_get-map}
use Rattle.ptg_base.specs.declared.place.Place.{Place}
use Rattle.coll_data.specs.declared.coll.Coll.{Coll}
use Rattle.coll_data.specs.Data.{Data}
use Rattle.coll_data.specs.Tiles.{IsRow, IsColumn, HasPlace, tile_index, tile_at}
use Rattle.coll_data.specs.WellMade.{elements_by_type, IsWellColl, IsWellMade, IsTileOf}
use Rattle.list_lemmas.proofs.Places.{each_at}
use Rattle.coll_data.proofs.TileIndex.{tile_exists}

-- the elements of a type after DEFAULT
pub element_at : (e : ℕ) (types : List (List ℕ × ℕ)) (n : ℕ) (type : List ℕ × ℕ) → 0 < n
    → Some type ≡ slice_get types (n - 1) → slice_get (e ∷ map (λ (t : List ℕ × ℕ). t.1) types) n ≡ Some type.1
element_at e types zero type h k = absurd (omega arith)
element_at e types (suc n) type h k =
    let before : suc n - 1 ≡ n = omega arith in
    let here : slice_get types n ≡ Some type = sym (subst (λ (m : ℕ). Some type ≡ slice_get types m) before k) in
    slice_get-map (λ (t : List ℕ × ℕ). t.1) types n ∙ ap (option_map (λ (t : List ℕ × ℕ). t.1)) here

copied_some : {T : Type 0} (o : Option (Bor T)) → IsSome o ↔ IsSome (option_copied o)
copied_some None = (λ h. h, λ h. h)
copied_some (Some x) = (λ h. search rules, λ h. search rules)

-- a tile of a well made collection
tile_length_at : (elements : List ℕ) (c : Coll) (w : IsWellColl elements c) (index : Option ℕ)
    (r : Option (Bor (List ℤ))) → option_copied r ≡ option_and_then (slice_get c.tiles) index
    → IfSome r (λ tile. length tile.now ≡ slice_index elements c.datatype)
tile_length_at elements c w index None e = tt
tile_length_at elements c w None (Some t) e = absurd cc
tile_length_at elements c w (Some k) (Some t) e =
    each_at (λ (tile : List ℤ). length tile ≡ slice_index elements c.datatype) c.tiles k t.now w.tile_lengths
    (sym e)

module _ (d : Data) (well : IsWellMade d) (p : Place) (c : Coll) (there : Some c ≡ slice_get d.colls p.coll) (r : Option (Bor (List ℤ)))
    (found : option_copied r ≡ option_and_then (slice_get c.tiles) (tile_index c.shape.0 c.shape.1 p.i p.j)) where
  pub well_coll : IsWellColl (elements_by_type d) c
  well_coll = each_at (IsWellColl (elements_by_type d)) d.colls p.coll c well.colls (sym there)

  pub tile_found : option_copied r ≡ tile_at d.colls p
  tile_found = found ∙ ap (option_and_then (λ (b : Coll). option_and_then (slice_get b.tiles) (tile_index b.shape.0 b.shape.1 p.i p.j))) there

  place_of : HasPlace d.colls p ↔ (IsRow c.shape.0 p.i × IsColumn c.shape.1 p.j)
  place_of = rw (sym there) (λ w. w, λ w. w)

  pub tile_there : IsSome r ↔ HasPlace d.colls p
  tile_there =
      let exists = tile_exists c.shape.0 c.shape.1 p.i p.j c.tiles well_coll.whole.all_tiles in
      let copied = copied_some r in (
        λ h. place_of.1 (exists.0 (subst IsSome found (copied.0 h))),
        λ h. copied.1 (subst IsSome (sym found) (exists.1 (place_of.0 h))),
      )

  pub tile_length : IfSome r (λ tile. IsTileOf d p.coll tile.now)
  tile_length = rw (sym there) (tile_length_at (elements_by_type d) c well_coll (tile_index c.shape.0 c.shape.1 p.i p.j) r found)
