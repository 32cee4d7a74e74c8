-- Weights of lists that change in one place, and lists that weigh no more than others.
use Rattle.std.proofs.Common.{◌≡◌, ℕ, zero, suc, ◌+◌, ◌<◌, ◌≤◌, ◌≢◌, Bool, true, List, [], ◌∷◌, set, length, sym, refl}
use Rattle.std.proofs.Common.{ap, subst, inl, inr, arith, eqb, eq-eqb, ne_eqb}
use mathlib.Core.Option.{some, some-injective, some-ne-none}
use mathlib.Core.Logic.{dite}
use native.Mathlib.Decide.{ℕ_discrete}
use lib.ListN.{get_elem?}
use Rattle.ptg_base.specs.Lists.{IsIn}
use Rattle.list_lemmas.specs.Counting.{as_number, count, weigh}
use Rattle.list_lemmas.proofs.Counts.{some_passes, without, without-weigh}

module _ {A : Type 0} (g : A → ℕ) where
  pub weigh-set : (l : List A) (j : ℕ) (v w : A) → get_elem? l j ≡ some v → weigh g (set l j w) + g v ≡ weigh g l + g w
  weigh-set [] j v w e = absurd (some-ne-none v (sym e))
  weigh-set (x ∷ xs) zero v w e = omega (arith, ap g (some-injective x v e))
  weigh-set (x ∷ xs) (suc j) v w e = omega (arith, weigh-set xs j v w e)

  pub term_le : (l : List A) (j : ℕ) (v : A) → get_elem? l j ≡ some v → g v ≤ weigh g l
  term_le [] j v e = absurd (some-ne-none v (sym e))
  term_le (x ∷ xs) zero v e = omega (arith, ap g (some-injective x v e))
  term_le (x ∷ xs) (suc j) v e = omega (arith, term_le xs j v e)

  pub terms_le : (l : List A) (j k : ℕ) (v u : A) → k ≢ j → get_elem? l j ≡ some v → get_elem? l k ≡ some u → g v + g u ≤ weigh g l
  terms_le [] j k v u n e d = absurd (some-ne-none v (sym e))
  terms_le (x ∷ xs) zero zero v u n e d = absurd (n refl)
  terms_le (x ∷ xs) zero (suc k) v u n e d = omega (arith, ap g (some-injective x v e), term_le xs k u d)
  terms_le (x ∷ xs) (suc j) zero v u n e d = omega (arith, ap g (some-injective x u d), term_le xs j v e)
  terms_le (x ∷ xs) (suc j) (suc k) v u n e d = omega (arith, terms_le xs j k v u (λ h. n (ap suc h)) e d)

  -- if no member has weight, the list has none
  pub weightless : (l : List A) → ((i : ℕ) (v : A) → get_elem? l i ≡ some v → g v ≡ 0) → weigh g l ≡ 0
  weightless [] h = refl
  weightless (x ∷ xs) h = omega (arith, h zero x refl, weightless xs (λ i v e. h (suc i) v e))

  -- if a list has weight, one of its members has
  pub some_place : (l : List A) → 0 < weigh g l → (i : ℕ) × (v : A) × (get_elem? l i ≡ some v) × (0 < g v)
  some_place [] h = absurd (omega arith)
  some_place (x ∷ xs) h = dite (ℕ_discrete (g x) 0)
      (λ z. let p = some_place xs (omega arith) in (suc p.0, p.1, p.2, p.3))
      (λ nz. (zero, x, refl, omega arith))

  -- the weight of the only member that has any
  pub weigh_alone : (l : List A) (id : ℕ) (v : A) → get_elem? l id ≡ some v → ((i : ℕ) (u : A) → i ≢ id → get_elem? l i ≡ some u → g u ≡ 0) → weigh g l ≡ g v
  weigh_alone [] id v e h = absurd (some-ne-none v (sym e))
  weigh_alone (x ∷ xs) zero v e h = omega (arith, ap g (some-injective x v e), weightless xs (λ i u d. h (suc i) u (λ z. omega arith) d))
  weigh_alone (x ∷ xs) (suc id) v e h = omega (arith, h zero x (λ z. omega arith) refl, weigh_alone xs id v e (λ i u n d. h (suc i) u (λ z. n (omega arith)) d))

-- if no term is greater, the sum is not greater
pub weigh_terms : {A : Type 0} (f g : A → ℕ) (l : List A) → ((i : ℕ) (v : A) → get_elem? l i ≡ some v → f v ≤ g v) → weigh f l ≤ weigh g l
weigh_terms f g [] h = omega arith
weigh_terms f g (x ∷ xs) h = omega (arith, h zero x refl, weigh_terms f g xs (λ i v e. h (suc i) v e))

pub weigh-same : {A : Type 0} (f g : A → ℕ) (l : List A) → ((x : A) → f x ≡ g x) → weigh f l ≡ weigh g l
weigh-same f g [] h = refl
weigh-same f g (x ∷ xs) h = omega (arith, h x, weigh-same f g xs h)

-- a list in which each element occurs at most as often as in another weighs at most as much
pub dominated : {A : Type 0} (same : A → A → Bool) → ((a b : A) → same a b ≡ true → a ≡ b) → ((a : A) → same a a ≡ true)
    → (xs ys : List A) → ((x : A) → count (same x) xs ≤ count (same x) ys) → (f : A → ℕ) → weigh f xs ≤ weigh f ys
dominated same one itself [] ys h f = omega arith
dominated {A} same one itself (x ∷ xs) ys h f =
    let here = itself x in
    let found = some_passes (same x) ys (omega (arith, h x, ap as_number here)) in
    let is_x : x ≡ found.0 = one x found.0 found.2 in
    let i : IsIn x ys = subst (λ z. IsIn z ys) (sym is_x) found.1 in
    let fewer : (z : A) → count (same z) xs ≤ count (same z) (without x ys i) = λ z. omega (arith, h z, without-weigh (λ y. as_number (same z y)) x ys i) in
    omega (arith, dominated same one itself xs (without x ys i) fewer f, without-weigh f x ys i)

-- the sum of f over the numbers below n
below : (ℕ → ℕ) → ℕ → ℕ
below f zero = 0
below f (suc n) = below f n + f n

below-plus : (f h k : ℕ → ℕ) (n : ℕ) → ((x : ℕ) → k x ≡ f x + h x) → below k n ≡ below f n + below h n
unfolding below
below-plus f h k zero e = refl
below-plus f h k (suc n) e = omega (arith, below-plus f h k n e, e n)

below-le : (f : ℕ → ℕ) (n : ℕ) → ((x : ℕ) → x < n → f x ≤ 1) → below f n ≤ n
unfolding below
below-le f zero h = omega arith
below-le f (suc n) h = omega (arith, below-le f n (λ x l. h x (omega arith)), h n (omega arith))

below-none : (m y : ℕ) → m ≤ y → below (λ k. as_number (eqb y k)) m ≡ 0
unfolding below
below-none zero y h = refl
below-none (suc m) y h = omega (arith, below-none m y (omega arith), ap as_number (ne_eqb y m (λ (e : y ≡ m). absurd (omega arith))))

below-is : (n x : ℕ) → x < n → below (λ k. as_number (eqb x k)) n ≡ 1
unfolding below
below-is zero x l = absurd (omega arith)
below-is (suc n) x l = dite (ℕ_discrete x n)
    (λ e. omega (arith, ap as_number (eq-eqb x n e), below-none n x (omega arith)))
    (λ ne. omega (arith, below-is n x (omega arith), ap as_number (ne_eqb x n ne)))

below-zero : (n : ℕ) → below (λ _. 0) n ≡ 0
unfolding below
below-zero zero = refl
below-zero (suc n) = omega (arith, below-zero n)

by_number : (n : ℕ) (l : List ℕ) → ((x : ℕ) → IsIn x l → x < n) → length l ≡ below (λ k. count (λ x. eqb x k) l) n
by_number n [] h = sym (below-zero n)
by_number n (x ∷ xs) h = omega (
  arith,
  by_number n xs (λ y i. h y (inr i)),
  below-is n x (h x (inl refl)),
  below-plus
      (λ k. as_number (eqb x k)) (λ k. count (λ y. eqb y k) xs) (λ k. as_number (eqb x k) + count (λ y. eqb y k) xs) n
      (λ k. refl),
)

-- a list of numbers below n without repeats has at most n members
pub few_numbers : (n : ℕ) (l : List ℕ) → ((x : ℕ) → IsIn x l → x < n) → ((k : ℕ) → k < n → count (λ x. eqb x k) l ≤ 1) → length l ≤ n
few_numbers n l h once = omega (arith, by_number n l h, below-le (λ k. count (λ x. eqb x k) l) n once)
