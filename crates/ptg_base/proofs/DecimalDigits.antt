-- The value of decimal digits that are read one after another.
use Rattle.std.proofs.Common.{◌≡◌, ℕ, suc, ◌+◌, ◌-◌, ◌*◌, ◌/◌, ◌^◌, ◌<◌, ◌≤◌, Bool, true, false, List, [], ◌∷◌, length, drop, get_or, refl, sym, ap}
use Rattle.std.proofs.Common.{◌∙◌, ◌⊎◌, inl, inr, arith}
use Rattle.std.specs.Prelude.{◌&&◌, nat_le}
use Rattle.std.specs.List.{list_all}
use Rattle.std.proofs.Math.Nat.{mul-one, zero-mul, add-mul, pow-suc, mul_assoc, mul_comm}
use Rattle.std.proofs.Math.Seq.{drop-cons}
use Rattle.std.proofs.lemmas.List.{drop_all}
use Rattle.std.proofs.lemmas.Bool.Decides.{nat_tests}
use Rattle.ptg_base.specs.Decimal.{is_digit, decimal, is_decimal}

-- the number that n becomes if these digits are appended to its own
abbrev pub continued : ℕ → List ℕ → ℕ
continued n [] = n
continued n (b ∷ bs) = continued (10 * n + (b - 48)) bs

-- appending digits shifts n by their number and adds theirs
continued_is : (n : ℕ) (bs : List ℕ) → continued n bs ≡ n * 10 ^ length bs + decimal bs
continued_is n [] = omega (arith, mul-one n)
continued_is n (b ∷ bs) = continued_is (10 * n + (b - 48)) bs ∙ step n (b - 48) (length bs) (decimal bs)
  where
    step : (n d k rest : ℕ) → (10 * n + d) * 10 ^ k + rest ≡ n * 10 ^ suc k + (d * 10 ^ k + rest)
    step n d k rest =
        let p : 10 ^ suc k ≡ 10 ^ k * 10 = pow-suc 10 k in
        let a : (10 * n + d) * 10 ^ k ≡ 10 * n * 10 ^ k + d * 10 ^ k = add-mul (10 * n) d (10 ^ k) in
        let b : n * 10 ^ suc k ≡ 10 * n * 10 ^ k = ap (λ (x : ℕ). n * x) p
        ∙ (sym (mul_assoc n (10 ^ k) 10) ∙ (mul_comm (n * 10 ^ k) 10 ∙ sym (mul_assoc 10 n (10 ^ k)))) in
        omega (arith, a, b)

pub begins : (text : List ℕ) → continued 0 text ≡ decimal text
begins text = omega (arith, continued_is 0 text, zero-mul (10 ^ length text))

-- more digits make no smaller number
grows : (n : ℕ) (bs : List ℕ) → n ≤ continued n bs
grows n [] = omega arith
grows n (b ∷ bs) = let k = grows (10 * n + (b - 48)) bs in omega (arith, k)

both_false : (a b : Bool) → b ≡ false → (a && b) ≡ false
both_false true b e = e
both_false false b e = refl

left_false : (a b : Bool) → a ≡ false → (a && b) ≡ false
left_false true b e = absurd cc
left_false false b e = refl

no_digit : (b : ℕ) → (b < 48) ⊎ (57 < b) → is_digit b ≡ false
no_digit b h = elim h [ inl l ↦ grind (arith, nat_tests) | inr g ↦ grind (arith, nat_tests) ]

-- whether the text has digits alone, and they spell a number of at most `most`
abbrev pub fits : ℕ → List ℕ → Bool
fits most text = list_all is_digit text && nat_le (decimal text) most

-- a text that is not empty is a decimal number if and only if it fits
fits_is : (most : ℕ) (text : List ℕ) → 0 < length text → is_decimal most text ≡ fits most text
unfolding is_decimal
fits_is most [] h = absurd (omega (arith, h))
fits_is most (b ∷ bs) h = refl

pub no_digits : (most : ℕ) (text : List ℕ) → length text ≡ 0 → is_decimal most text ≡ false
unfolding is_decimal
no_digits most [] h = refl
no_digits most (b ∷ bs) h = absurd (omega (arith, h))

module _ (most : ℕ) (text : List ℕ) (i : ℕ) where
  pub bad_digit : list_all is_digit (drop i text) ≡ list_all is_digit text → i < length text
      → (get_or text i 0 < 48) ⊎ (57 < get_or text i 0) → is_decimal most text ≡ false
  bad_digit same h bad =
      let here : list_all is_digit (drop i text) ≡ false = ap (list_all is_digit) (drop-cons text i 0 h) ∙ left_false _ _ (no_digit _ bad) in
      fits_is most text (omega (arith, h)) ∙ left_false _ _ (sym same ∙ here)

  pub too_large : (v : ℕ) → continued v (drop i text) ≡ decimal text → i < length text
      → (most < get_or text i 0 - 48) ⊎ ((most - (get_or text i 0 - 48)) / 10 < v) → is_decimal most text ≡ false
  too_large v same h over =
      let next : continued v (drop i text) ≡ continued (10 * v + (get_or text i 0 - 48)) (drop (suc i) text) = ap (continued v) (drop-cons text i 0 h) in
      let more = grows (10 * v + (get_or text i 0 - 48)) (drop (suc i) text) in
      let large : most < decimal text = elim over [ inl o ↦ omega (arith, next, more, same, o) | inr o ↦ omega (arith, next, more, same, o) ] in
      fits_is most text (omega (arith, h)) ∙ both_false (list_all is_digit text) (nat_le (decimal text) most) (grind (arith, nat_tests, large))

  pub all_fit : (v : ℕ) → 0 < length text → continued v (drop i text) ≡ decimal text
      → list_all is_digit (drop i text) ≡ list_all is_digit text → length text ≤ i → v ≤ most
      → (is_decimal most text ≡ true) × (v ≡ decimal text)
  all_fit v some same digits h fit =
      let value : v ≡ decimal text = sym (ap (continued v) (drop_all i text h)) ∙ same in
      let good : list_all is_digit text ≡ true = sym digits ∙ ap (list_all is_digit) (drop_all i text h) in
      (fits_is most text some ∙ rw good (grind (arith, nat_tests, value, fit)), value)
