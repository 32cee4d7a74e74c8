-- Sums over tallies when one tally changes.
use Rattle.std.proofs.Common.{◌≡◌, ℕ, zero, suc, ◌+◌, ◌≤◌, List, [], ◌∷◌, set, sum_by, All, Contains, sym, refl, ap, arith}
use Rattle.std.proofs.lemmas.List.Sums.{sum_by-cons}
use Rattle.std.proofs.lemmas.List.Elements.{All-contains}
use mathlib.Core.Option.{some, some-injective, some-ne-none}
use lib.ListN.{get_elem?}

module _ {X : Type 0} where
  -- the sum after one term changed
  pub sum_by-change : (f : X → ℕ) (xs : List X) (i : ℕ) (x y : X) → get_elem? xs i ≡ some x → sum_by f (set xs i y) + f x ≡ sum_by f xs + f y
  sum_by-change f [] i x y e = absurd (some-ne-none x (sym e))
  sum_by-change f (z ∷ xs) zero x y e = let same : f z ≡ f x = ap f (some-injective z x e) in omega (arith, sum_by-cons f z xs, sum_by-cons f y xs)
  sum_by-change f (z ∷ xs) (suc i) x y e = let h = sum_by-change f xs i x y e in omega (arith, sum_by-cons f z xs, sum_by-cons f z (set xs i y))

  pub contains_at : (xs : List X) (i : ℕ) (x : X) → get_elem? xs i ≡ some x → Contains xs x
  contains_at [] i x e = absurd (some-ne-none x (sym e))
  contains_at (z ∷ xs) zero x e = (0, omega arith, some-injective z x e)
  contains_at (z ∷ xs) (suc i) x e = let h = contains_at xs i x e in (suc h.0, omega arith, h.2)

  pub all_at : (P : X → Type 0) (xs : List X) (i : ℕ) (x : X) → get_elem? xs i ≡ some x → All P xs → P x
  all_at P xs i x e h = All-contains P xs x h (contains_at xs i x e)

  -- a term is at most the sum
  pub sum_by-at-le : (f : X → ℕ) (xs : List X) (i : ℕ) (x : X) → get_elem? xs i ≡ some x → f x ≤ sum_by f xs
  sum_by-at-le f [] i x e = absurd (some-ne-none x (sym e))
  sum_by-at-le f (z ∷ xs) zero x e = let same : f z ≡ f x = ap f (some-injective z x e) in omega (arith, sum_by-cons f z xs)
  sum_by-at-le f (z ∷ xs) (suc i) x e = let h = sum_by-at-le f xs i x e in omega (arith, sum_by-cons f z xs)

  -- if the weights add up to 0, and each term without weight is 0, the terms add up to 0
  sum_by-idle : (weight f : X → ℕ) (xs : List X) → ((i : ℕ) (x : X) → get_elem? xs i ≡ some x → weight x ≡ 0 → f x ≡ 0) → sum_by weight xs ≡ 0 → sum_by f xs ≡ 0
  sum_by-idle weight f [] idle e = refl
  sum_by-idle weight f (z ∷ xs) idle e =
      let c = sum_by-cons weight z xs in
      let first : f z ≡ 0 = idle 0 z refl (omega arith) in
      let rest = sum_by-idle weight f xs (λ i x. idle (suc i) x) (omega arith) in
      omega (arith, sum_by-cons f z xs)

  -- if one member has all the weight, and each term without weight is 0, the sum is its term
  pub sum_by-whole : (weight f : X → ℕ) (xs : List X) (i : ℕ) (x : X) → get_elem? xs i ≡ some x
      → ((j : ℕ) (y : X) → get_elem? xs j ≡ some y → weight y ≡ 0 → f y ≡ 0) → sum_by weight xs ≡ weight x → sum_by f xs ≡ f x
  sum_by-whole weight f [] i x e idle whole = absurd (some-ne-none x (sym e))
  sum_by-whole weight f (z ∷ xs) zero x e idle whole =
      let c = sum_by-cons weight z xs in
      let same : weight z ≡ weight x = ap weight (some-injective z x e) in
      let same' : f z ≡ f x = ap f (some-injective z x e) in
      let rest = sum_by-idle weight f xs (λ j y. idle (suc j) y) (omega arith) in
      omega (arith, sum_by-cons f z xs)
  sum_by-whole weight f (z ∷ xs) (suc i) x e idle whole =
      let c = sum_by-cons weight z xs in
      let most = sum_by-at-le weight xs i x e in
      let first : f z ≡ 0 = idle 0 z refl (omega arith) in
      let rest = sum_by-whole weight f xs i x e (λ j y. idle (suc j) y) (omega arith) in
      omega (arith, sum_by-cons f z xs)
