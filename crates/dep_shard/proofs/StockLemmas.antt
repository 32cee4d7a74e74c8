-- The tiles of all types, when those of one type change.
use Rattle.std.specs.Prelude.{◌≡◌, ℕ, ◌+◌, ◌<◌, ◌≤◌, List, [], ◌∷◌, length, map, slice_index, slice_index_or, slice_set, Some, None}
use Rattle.std.proofs.Common.{zero, suc, refl, ap, subst, ◌∙◌, arith}
use Rattle.std.proofs.lemmas.Bool.Decides.{nat_tests}
use Rattle.std.proofs.Math.Seq.{map-set_same}
use Rattle.dep_shard.specs.Stock.{TypeTiles, tiles_used, UsesTile}

-- the lengths stay
pub elems_stay : (types : List TypeTiles) (k : ℕ) (v d : TypeTiles) → d ≡ slice_index_or types k d → v.elems ≡ d.elems
    → map (λ (t : TypeTiles). t.elems) (slice_set types k v) ≡ map (λ (t : TypeTiles). t.elems) types
elems_stay types k v d is same = map-set_same (λ (t : TypeTiles). t.elems) types k v d (same ∙ ap (λ (t : TypeTiles). t.elems) is)

used_next : (k j : ℕ) → tiles_used (Some k) j ≤ tiles_used (Some (suc k)) (suc j)
used_next k j = grind (arith, nat_tests)

used_here : (k : ℕ) → tiles_used (Some k) k ≡ 1
used_here k = grind (arith, nat_tests)

one_at : (types : List TypeTiles) (k : ℕ) (v d : TypeTiles) → (slice_index_or types k d).spare ≤ v.spare + 1
    → UsesTile (map (λ (t : TypeTiles). t.spare) types) (map (λ (t : TypeTiles). t.spare) (slice_set types k v))
    (Some k)
one_at [] k v d less j = omega arith
one_at (x ∷ xs) zero v d less zero = omega (arith, less, used_here 0)
one_at (x ∷ xs) zero v d less (suc j) = omega arith
one_at (x ∷ xs) (suc k) v d less zero = omega arith
one_at (x ∷ xs) (suc k) v d less (suc j) = omega (arith, one_at xs k v d less j, used_next k j)

-- at most one tile of this type is used
pub uses_one : (types : List TypeTiles) (old : List ℕ) (k : ℕ) (v d : TypeTiles)
    → map (λ (t : TypeTiles). t.spare) types ≡ old → d ≡ slice_index_or types k d → d.spare ≤ v.spare + 1
    → UsesTile old (map (λ (t : TypeTiles). t.spare) (slice_set types k v)) (Some k)
uses_one types old k v d was is less =
    let new : List ℕ = map (λ (t : TypeTiles). t.spare) (slice_set types k v) in
    subst (λ (had : List ℕ). UsesTile had new (Some k)) was (one_at types k v d (omega (arith, less, ap (λ (t : TypeTiles). t.spare) is)))

none_at : (types : List TypeTiles) (k : ℕ) (v d : TypeTiles) → (slice_index_or types k d).spare ≤ v.spare
    → UsesTile (map (λ (t : TypeTiles). t.spare) types) (map (λ (t : TypeTiles). t.spare) (slice_set types k v)) None
none_at [] k v d less j = omega arith
none_at (x ∷ xs) zero v d less zero = omega (arith, less)
none_at (x ∷ xs) zero v d less (suc j) = omega arith
none_at (x ∷ xs) (suc k) v d less zero = omega arith
none_at (x ∷ xs) (suc k) v d less (suc j) = none_at xs k v d less j

-- no tile is used
pub uses_none : (types : List TypeTiles) (old : List ℕ) (k : ℕ) (v d : TypeTiles)
    → map (λ (t : TypeTiles). t.spare) types ≡ old → d ≡ slice_index_or types k d → d.spare ≤ v.spare
    → UsesTile old (map (λ (t : TypeTiles). t.spare) (slice_set types k v)) None
uses_none types old k v d was is less =
    let new : List ℕ = map (λ (t : TypeTiles). t.spare) (slice_set types k v) in
    subst (λ (had : List ℕ). UsesTile had new None) was (none_at types k v d (omega (arith, less, ap (λ (t : TypeTiles). t.spare) is)))

there : (types : List TypeTiles) (k : ℕ) (v : TypeTiles) → k < length types → slice_index (map (λ (t : TypeTiles). t.spare) (slice_set types k v)) k ≡ v.spare
there [] k v within = absurd (omega arith)
there (x ∷ xs) zero v within = refl
there (x ∷ xs) (suc k) v within = there xs k v (omega (arith, within))

one_each : (types : List TypeTiles) → length (map (λ (t : TypeTiles). t.elems) types) ≡ length types
one_each [] = refl
one_each (x ∷ xs) = ap (λ n. suc n) (one_each xs)

-- the spare tiles of the type that changes
pub spare_there : (types : List TypeTiles) (elems : List ℕ) (k : ℕ) (v : TypeTiles)
    → map (λ (t : TypeTiles). t.elems) types ≡ elems → k < length elems
    → slice_index (map (λ (t : TypeTiles). t.spare) (slice_set types k v)) k ≡ v.spare
spare_there types elems k v was within = there types k v (omega (arith, within, one_each types, ap (λ (ns : List ℕ). length ns) was))
