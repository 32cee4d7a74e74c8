-- A tile belongs to one place.
use Rattle.std.proofs.Common.{◌≡◌, ℕ, true, ap, sym, ◌∙◌, Option, Some, None, eqb}
use Rattle.std.proofs.lemmas.Bool.{false≢true, and_parts, eqb-true}
use Rattle.std.specs.Option.{option_eq}
use Rattle.ptg_base.specs.declared.place.Place.{Place}
use Rattle.coll_data.specs.declared.coll.Coll.{Coll}
use Rattle.coll_data.specs.Tiles.{tile_index}
use Rattle.flow_meaning.specs.Final.{is_place_of}
use Rattle.coll_data.proofs.CallerLemmas.{one_index}

index_is : (o : Option ℕ) (k : ℕ) → option_eq eqb o (Some k) ≡ true → o ≡ Some k
index_is None k h = absurd (false≢true h)
index_is (Some i) k h = ap (λ n. Some n) (eqb-true i k h)

-- two places of the same tile are equal
pub one_place : (c : ℕ) (x : Coll) (k : ℕ) (p q : Place) → is_place_of c x k p ≡ true → is_place_of c x k q ≡ true → p ≡ q
one_place c x k p q h g =
    let a = and_parts (eqb p.coll c) (option_eq eqb (tile_index x.shape.0 x.shape.1 p.i p.j) (Some k)) h in
    let b = and_parts (eqb q.coll c) (option_eq eqb (tile_index x.shape.0 x.shape.1 q.i q.j) (Some k)) g in
    let coll : p.coll ≡ q.coll = eqb-true p.coll c a.0 ∙ sym (eqb-true q.coll c b.0) in
    let at = one_index x.shape.0 x.shape.1 p.i p.j q.i q.j k (index_is (tile_index x.shape.0 x.shape.1 p.i p.j) k a.1)
    (index_is (tile_index x.shape.0 x.shape.1 q.i q.j) k b.1) in
    λ m. record { coll = coll m; i = at.0 m; j = at.1 m }
