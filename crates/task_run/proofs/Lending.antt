-- The pool that lends a tile.
use Rattle.std.proofs.Common.{◌≡◌, ℕ, ◌<◌, ℤ, length, map, List, ap, sym, ◌∙◌, subst, Option, Some, None, arith}
use Rattle.std.proofs.Common.{slice_index, slice_index_or, slice_get}
use Rattle.std.proofs.lemmas.List.{length-map}
use Rattle.std.specs.Prelude.{IfSome, option_map, ◌++◌, ◌∷◌, [], refl}
use Rattle.list_lemmas.proofs.Places.{slice_get_at, slice_get_there}
use Rattle.task_run.specs.Pools.{AreBelow, Lent}
use Rattle.task_run.specs.PoolList.{ArePools, CanGive}
use Rattle.task_run.specs.declared.pools.TypePool.{TypePool}
use Rattle.task_run.proofs.PoolLemmas.{below_along, below_last, elems_at, lent_room, pools_along}

abbrev pub elems_of : List TypePool → List ℕ
elems_of pools = map (λ (p : TypePool). p.pool.elems) pools

module _ (pools : List TypePool) (lent : List (Option ℕ)) (b : Lent)
    (seen : record { elems = elems_of pools; lent = lent } ≡ b) (k : ℕ) (known : k < length b.elems) where
  -- the type is that of a pool
  pub within : k < length pools
  within = omega (
    arith,
    known,
    ap (λ (c : Lent). length c.elems) seen,
    length-map pools
        (λ (p : TypePool). p.pool.elems),
  )

  module _ (p : TypePool) (value : p ≡ slice_index_or pools k p) where
    -- the pool of the type, and the length of its tiles
    pub at : slice_get pools k ≡ Some p
    at = slice_get_at pools k p within value

    pub elems_is : slice_index b.elems k ≡ p.pool.elems
    elems_is = sym (ap (λ (c : Lent). slice_index c.elems k) seen) ∙ elems_at pools k p at

pub length_along : (o : Option (List ℤ)) (m n : ℕ) → m ≡ n → IfSome o (λ tile. length tile ≡ m)
    → IfSome o (λ tile. length tile ≡ n)
length_along o m n e h = subst (λ i. IfSome o (λ tile. length tile ≡ i)) e h

-- the tile of the last flow may come back
pub may_come_back : (pools : List TypePool) (lent : List (Option ℕ)) (b : Lent)
    → record { elems = elems_of pools; lent = lent } ≡ b → (init : List (Option ℕ)) (type : Option ℕ)
    (tile : Option (List ℤ))
    → lent ≡ init ++ type ∷ [] → ArePools pools lent → AreBelow (length pools) lent
    → ((k : ℕ) → type ≡ Some k → option_map length tile ≡ Some (slice_index b.elems k)) → CanGive pools type tile
may_come_back pools lent b seen init None tile split are below fits = tt
may_come_back pools lent b seen init (Some k) tile split are below fits =
    let split_are : ArePools pools (init ++ Some k ∷ []) = pools_along pools (sym split) are in
    let found = slice_get_there pools k (below_last (length pools) init k
    (below_along (length pools) (sym split) below)) in
    let is = split_are k found.0 found.1 in
    let known : slice_index b.elems k ≡ found.0.pool.elems = sym (ap (λ (c : Lent). slice_index c.elems k) seen)
    ∙ elems_at pools k found.0 found.1 in
    record {
      pool = found.0;
      is = found.1;
      room = lent_room init k found.0.pool found.0.zeros is;
      fits = fits k refl
          ∙ ap Some known;
    }

-- a tile of a type that was lent has the length of the type
pub some_fits : (elems : List ℕ) (d k : ℕ) (x : List ℤ) → length x ≡ slice_index elems d → Some d ≡ Some k
    → option_map length (Some x) ≡ Some (slice_index elems k)
some_fits elems d k x is e =
    let same : d ≡ k = cc in
    ap Some (is ∙ ap (slice_index elems) same)
