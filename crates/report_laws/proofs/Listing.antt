-- The list of places, by its members and their indexes.
use Rattle.std.proofs.Common.{◌≡◌, ℕ, ℤ, zero, suc, ◌<◌, ◌↔◌, inl, inr, List, [], ◌∷◌, length, Option, Some, slice_get, sym, ap, ◌∙◌, subst, arith}
use Rattle.std.specs.Prelude.{option_and_then}
use Rattle.std.specs.List.{zip}
use Rattle.std.proofs.lemmas.Option.{slice_get_within, slice_get-get_or, option_and_then_some, same_Some}
use Rattle.ptg_base.specs.Lists.{IsIn}
use Rattle.coll_data.specs.declared.coll.Coll.{Coll}
use Rattle.coll_data.specs.Tiles.{tile_count}
use Rattle.report_text.specs.Places.{places, place_after}
use Rattle.report_laws.specs.Listed.{listed_index}
use Rattle.report_text.proofs.CallerLemmas.{length_places, place_at}
use Rattle.report_laws.proofs.Indexes.{index_after, after_index}

-- elements that are paired have the same index in both lists
pub paired : {A B : Type 0} (xs : List A) (ys : List B) (x : A) (y : B) → IsIn (x, y) (zip xs ys)
    → (n : ℕ) × (slice_get xs n ≡ Some x) × (slice_get ys n ≡ Some y)
paired [] ys x y among = absurd among
paired (a ∷ xs) [] x y among = absurd among
paired (a ∷ xs) (b ∷ ys) x y among = elim among [
  | inl e ↦ (zero, ap (λ p. Some p.0) (sym e), ap (λ p. Some p.1) (sym e))
  | inr later ↦ let p = paired xs ys x y later in (suc p.0, p.1, p.2)
]

pub beside : {A B : Type 0} (xs : List A) (ys : List B) (n : ℕ) (x : A) (y : B) → slice_get xs n ≡ Some x → slice_get ys n ≡ Some y → IsIn (x, y) (zip xs ys)
beside [] ys n x y at_x at_y = absurd cc
beside (a ∷ xs) [] n x y at_x at_y = absurd cc
beside (a ∷ xs) (b ∷ ys) zero x y at_x at_y = inl cc
beside (a ∷ xs) (b ∷ ys) (suc n) x y at_x at_y = inr (beside xs ys n x y at_x at_y)

-- the n-th place is the one with the index n
pub nth_place : (rows : ℕ) (cols : Option ℕ) (n : ℕ) → n < tile_count rows cols → slice_get (places rows cols) n ≡ Some (place_after cols n)
nth_place rows cols n within =
    let listed : n < length (places rows cols) = omega (arith, within, length_places rows cols) in
    slice_get-get_or (places rows cols) n [] listed ∙ ap Some (place_at rows cols n [] within)

pub nth_index : (rows : ℕ) (cols : Option ℕ) (n : ℕ) (place : List ℕ) → slice_get (places rows cols) n ≡ Some place ↔ listed_index rows cols place ≡ Some n
nth_index rows cols n place = (forward, backward) where
  forward : slice_get (places rows cols) n ≡ Some place → listed_index rows cols place ≡ Some n
  forward e =
      let listed = slice_get_within (places rows cols) n place e in
      let within : n < tile_count rows cols = omega (arith, listed, length_places rows cols) in
      let same : place_after cols n ≡ place = same_Some (place_after cols n) place (sym (nth_place rows cols n within) ∙ e) in
      subst (λ p. listed_index rows cols p ≡ Some n) same (index_after rows cols n within)

  backward : listed_index rows cols place ≡ Some n → slice_get (places rows cols) n ≡ Some place
  backward e =
      let after = after_index rows cols place n e in
      nth_place rows cols n after.1 ∙ ap Some (sym after.0)

-- the tile that is paired with a place is the one at the place's index
pub beside_place : (coll : Coll) (place : List ℕ) (tile : List ℤ)
    → IsIn (place, tile) (zip (places coll.shape.0 coll.shape.1) coll.tiles) ↔ option_and_then (slice_get coll.tiles)
    (listed_index coll.shape.0 coll.shape.1 place) ≡ Some tile
beside_place coll place tile = (forward, backward) where
  forward : IsIn (place, tile) (zip (places coll.shape.0 coll.shape.1) coll.tiles)
      → option_and_then (slice_get coll.tiles) (listed_index coll.shape.0 coll.shape.1 place) ≡ Some tile
  forward among =
      let p = paired (places coll.shape.0 coll.shape.1) coll.tiles place tile among in
      let index = (nth_index coll.shape.0 coll.shape.1 p.0 place).0 p.1 in
      ap (option_and_then (slice_get coll.tiles)) index ∙ p.2

  backward : option_and_then (slice_get coll.tiles) (listed_index coll.shape.0 coll.shape.1 place) ≡ Some tile
      → IsIn (place, tile) (zip (places coll.shape.0 coll.shape.1) coll.tiles)
  backward e =
      option_and_then_some (slice_get coll.tiles) (listed_index coll.shape.0 coll.shape.1 place) tile e
      (λ n index at. beside (places coll.shape.0 coll.shape.1) coll.tiles n place tile ((nth_index coll.shape.0 coll.shape.1 n place).1 index) at)
