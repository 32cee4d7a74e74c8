-- How a range continues from one value to the next.
use Rattle.std.proofs.Common.{◌≡◌, ℕ, zero, suc, ◌+◌, ◌<◌, ℤ, pos, negsuc, ◌+ℤ◌, ◌-ℤ◌, unsigned_abs, true, false, []}
use Rattle.std.proofs.Common.{◌∷◌, refl, ap, sym, ◌∙◌, Option, Some, None, SomeIff, FitsSigned, w64, arith}
use Rattle.std.proofs.lemmas.Int.{ints}
use Rattle.range_space.specs.Values.{is_within, while_within, values, values_from}
use Rattle.list_lemmas.proofs.Truth.{by_test}

-- how far v is from hi
abbrev pub gap : ℤ → ℤ → ℕ
gap hi v = unsigned_abs (hi -ℤ v)

-- a step that does not pass hi comes nearer to it by the size of the step
pub gap-step : (hi step v : ℤ) → is_within hi step v ≡ true → is_within hi step (v +ℤ step) ≡ true → gap hi v ≡ gap hi (v +ℤ step) + unsigned_abs step
gap-step hi (pos zero) v h k = absurd cc
gap-step hi (pos (suc n)) v h k = grind (arith, ints)
gap-step hi (negsuc n) v h k = grind (arith, ints)

pub size_pos : (hi step v : ℤ) → is_within hi step v ≡ true → 0 < unsigned_abs step
size_pos hi (pos zero) v h = absurd cc
size_pos hi (pos (suc n)) v h = omega arith
size_pos hi (negsuc n) v h = omega arith

-- the last value is nearer to hi than a step
pub gap_last : (hi step v : ℤ) → is_within hi step v ≡ true → is_within hi step (v +ℤ step) ≡ false → gap hi v < unsigned_abs step
gap_last hi (pos zero) v h k = absurd cc
gap_last hi (pos (suc n)) v h k = grind (arith, ints)
gap_last hi (negsuc n) v h k = grind (arith, ints)

-- a sum that is not past hi fits 64 bits if v and hi do
fits_between : (v hi step : ℤ) → FitsSigned w64 v → FitsSigned w64 hi → is_within hi step (v +ℤ step) ≡ true → FitsSigned w64 (v +ℤ step)
fits_between v hi (pos zero) f g k = absurd cc
fits_between v hi (pos (suc n)) f g k = omega (arith, ints)
fits_between v hi (negsuc n) f g k = omega (arith, ints)

module _ (hi step : ℤ) where
  pub while_past : (n : ℕ) (v : ℤ) → is_within hi step v ≡ false → while_within hi step n v ≡ []
  unfolding while_within
  while_past zero v h = refl
  while_past (suc n) v h = rw h refl

  pub while_in : (n : ℕ) (v : ℤ) → is_within hi step v ≡ true → while_within hi step (suc n) v ≡ v ∷ while_within hi step n (v +ℤ step)
  unfolding while_within
  while_in n v h = rw h refl

  -- a larger bound on the number of values changes nothing
  pub while_enough : (m n : ℕ) (v : ℤ) → gap hi v < m → gap hi v < n → while_within hi step m v ≡ while_within hi step n v
  while_enough zero n v p q = absurd (omega arith)
  while_enough (suc m) zero v p q = absurd (omega arith)
  while_enough (suc m) (suc n) v p q =
      by_test (is_within hi step v)
      (λ h. while_in m v h ∙ ap (λ vs. v ∷ vs) (by_test (is_within hi step (v +ℤ step))
      (λ k. let e = gap-step hi step v h k in let s = size_pos hi step v h in while_enough m n (v +ℤ step) (omega arith) (omega arith))
      (λ k. while_past m (v +ℤ step) k ∙ sym (while_past n (v +ℤ step) k))) ∙ sym (while_in n v h))
      (λ h. while_past (suc m) v h ∙ sym (while_past (suc n) v h))

  pub values_past : (v : ℤ) → is_within hi step v ≡ false → values v hi step ≡ []
  unfolding values
  values_past v h = while_past (suc (gap hi v)) v h

  -- a value, and then those from the next one on
  pub values_in : (v : ℤ) → is_within hi step v ≡ true → values v hi step ≡ v ∷ values (v +ℤ step) hi step
  unfolding values
  values_in v h =
      while_in (gap hi v) v h ∙ ap (λ vs. v ∷ vs) (by_test (is_within hi step (v +ℤ step))
      (λ k. let e = gap-step hi step v h k in let s = size_pos hi step v h in while_enough (gap hi v)
      (suc (gap hi (v +ℤ step))) (v +ℤ step) (omega arith) (omega arith))
      (λ k. while_past (gap hi v) (v +ℤ step) k ∙ sym (while_past (suc (gap hi (v +ℤ step))) (v +ℤ step) k)))

-- a next value that does not fit 64 bits is past hi
pub unfit_past : (v hi step : ℤ) → FitsSigned w64 v → FitsSigned w64 hi → (FitsSigned w64 (v +ℤ step) → ⊥) → is_within hi step (v +ℤ step) ≡ false
unfit_past v hi step f g not_fit =
    by_test (is_within hi step (v +ℤ step)) (λ w. absurd (not_fit (fits_between v hi step f g w))) (λ w. w)

pub values_unfit : (v hi step : ℤ) → FitsSigned w64 v → FitsSigned w64 hi → (FitsSigned w64 (v +ℤ step) → ⊥) → values (v +ℤ step) hi step ≡ []
values_unfit v hi step f g not_fit = values_past hi step (v +ℤ step) (unfit_past v hi step f g not_fit)

-- the next value, if it fits 64 bits
pub values_checked : (v hi step : ℤ) (next : Option ℤ) → FitsSigned w64 v → FitsSigned w64 hi
    → is_within hi step v ≡ true → SomeIff next (FitsSigned w64 (v +ℤ step)) (v +ℤ step)
    → values v hi step ≡ v ∷ values_from next hi step
values_checked v hi step (Some z) f g h k = values_in hi step v h ∙ ap (λ w. v ∷ values w hi step) (sym k.1)
values_checked v hi step None f g h k = values_in hi step v h ∙ ap (λ vs. v ∷ vs) (values_unfit v hi step f g k)
