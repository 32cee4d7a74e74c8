-- The places of a collection, by how many places come before them.
use Rattle.std.proofs.Common.{◌≡◌, ℕ, ℤ, zero, suc, ◌/◌, ◌%◌, ◌<◌, List, [], ◌∷◌, length, get_or, Option, None, Some, sym, ap, ◌∙◌, arith, zero-add}
use Rattle.std.proofs.lemmas.List.FromFn.{get_or-map-range_with_len, length-map-range_with_len}
use Rattle.std.proofs.lemmas.Slice.Zip.{get_or-zip, length-zip}
use Rattle.std.specs.List.{zip}
use Rattle.coll_data.specs.declared.coll.Coll.{Coll}
use Rattle.coll_data.specs.Tiles.{tile_count}
use Rattle.coll_data.specs.WellMade.{IsWhole}
use Rattle.report_text.specs.Places.{places, place_after}
use Rattle.list_lemmas.proofs.Grids.{length_rows, place_in}

pub length_places : (rows : ℕ) (cols : Option ℕ) → length (places rows cols) ≡ tile_count rows cols
length_places rows None = length-map-range_with_len (λ i. i ∷ []) 0 rows
length_places rows (Some cols) = length_rows cols 0 rows

pub place_at : (rows : ℕ) (cols : Option ℕ) (n : ℕ) (d : List ℕ) → n < tile_count rows cols → get_or (places rows cols) n d ≡ place_after cols n
place_at rows None n d within = get_or-map-range_with_len (λ i. i ∷ []) 0 rows n n d within (zero-add n)
place_at rows (Some zero) n d within = absurd (omega (arith, within))
place_at rows (Some (suc cols)) n d within = place_in (suc cols) 0 rows n d (omega arith) within ∙ ap (λ i. i ∷ n % suc cols ∷ []) (zero-add (n / suc cols))

-- the tiles of a collection beside their places
abbrev pub placed : Coll → List (List ℕ × List ℤ)
placed coll = zip (places coll.shape.0 coll.shape.1) coll.tiles

pub length_placed : (coll : Coll) → IsWhole coll → length (placed coll) ≡ length coll.tiles
length_placed coll whole =
    let count = length_places coll.shape.0 coll.shape.1 in
    length-zip (places coll.shape.0 coll.shape.1) coll.tiles ∙ omega (arith, count, whole.all_tiles)

-- a tile beside its place
pub placed_tile : (coll : Coll) (n : ℕ) (tile : List ℤ) → IsWhole coll → n < length coll.tiles
    → tile ≡ get_or coll.tiles n tile → (place_after coll.shape.1 n, tile)
    ≡ get_or (placed coll) n (place_after coll.shape.1 n, tile)
placed_tile coll n tile whole within is =
    let place = place_after coll.shape.1 n in
    let count : n < tile_count coll.shape.0 coll.shape.1 = omega (arith, within, whole.all_tiles) in
    let listed : n < length (places coll.shape.0 coll.shape.1) = omega (arith, count, length_places coll.shape.0 coll.shape.1) in
    sym (get_or-zip (places coll.shape.0 coll.shape.1) coll.tiles n (place, tile) listed within
    ∙ ap (λ p. (p, get_or coll.tiles n tile)) (place_at coll.shape.0 coll.shape.1 n place count)
    ∙ ap (λ t. (place, t)) (sym is))
