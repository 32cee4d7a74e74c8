-- How the values of a loop continue from one to the next.
use Rattle.std.proofs.Common.{◌≡◌, ℕ, suc, ℤ, pos, ◌+ℤ◌, ◌-ℤ◌, unsigned_abs, int_lt, true, false, List, [], ◌∷◌, refl}
use Rattle.std.proofs.Common.{ap, sym, ◌∙◌, Option, Some, None, SomeIff, FitsSigned, w64, arith}
use Rattle.std.proofs.lemmas.Int.{ints}
use Rattle.body_eval.specs.Meaning.{upwards, turn_values}
use Rattle.list_lemmas.proofs.Truth.{by_test}

-- the values from a number on; none if there is no number
abbrev pub values_left : Option ℤ → ℤ → List ℤ
values_left None hi = []
values_left (Some v) hi = turn_values v hi

-- how far v is below hi
abbrev gap : ℤ → ℤ → ℕ
gap hi v = unsigned_abs (hi -ℤ v)

pub values_past : (v hi : ℤ) → int_lt hi v ≡ true → turn_values v hi ≡ []
unfolding turn_values
values_past v hi h = rw h refl

values_not_past : (v hi : ℤ) → int_lt hi v ≡ false → turn_values v hi ≡ v ∷ upwards (gap hi v) (v +ℤ pos 1)
unfolding turn_values
values_not_past v hi h = rw h refl

gap_at : (v hi : ℤ) → int_lt hi v ≡ false → int_lt hi (v +ℤ pos 1) ≡ true → gap hi v ≡ 0
gap_at v hi h k = grind (arith, ints)

gap_below : (v hi : ℤ) → int_lt hi v ≡ false → int_lt hi (v +ℤ pos 1) ≡ false → gap hi v ≡ suc (gap hi (v +ℤ pos 1))
gap_below v hi h k = grind (arith, ints)

-- a value that is not past hi is the first of the values from it on
pub values_next : (v hi : ℤ) → int_lt hi v ≡ false → turn_values v hi ≡ v ∷ turn_values (v +ℤ pos 1) hi
values_next v hi h =
    values_not_past v hi h ∙ ap (λ vs. v ∷ vs) (by_test (int_lt hi (v +ℤ pos 1))
    (λ k. ap (λ n. upwards n (v +ℤ pos 1)) (gap_at v hi h k) ∙ sym (values_past (v +ℤ pos 1) hi k))
    (λ k. ap (λ n. upwards n (v +ℤ pos 1)) (gap_below v hi h k) ∙ sym (values_not_past (v +ℤ pos 1) hi k)))

fits_up : (v hi : ℤ) → FitsSigned w64 v → FitsSigned w64 hi → int_lt hi v ≡ false → int_lt hi (v +ℤ pos 1) ≡ false → FitsSigned w64 (v +ℤ pos 1)
fits_up v hi f g h k = grind (arith, ints)

-- the next value, checked to fit 64 bits: one that does not fit is past hi
pub values_checked : (v hi : ℤ) (next : Option ℤ) → FitsSigned w64 v → FitsSigned w64 hi → int_lt hi v ≡ false
    → SomeIff next (FitsSigned w64 (v +ℤ pos 1)) (v +ℤ pos 1) → turn_values v hi ≡ v ∷ values_left next hi
values_checked v hi (Some z) f g h k = values_next v hi h ∙ ap (λ w. v ∷ turn_values w hi) (sym k.1)
values_checked v hi None f g h k =
    values_next v hi h ∙ ap (λ vs. v ∷ vs) (values_past (v +ℤ pos 1) hi (by_test (int_lt hi (v +ℤ pos 1)) (λ t. t) (λ t. absurd (k (fits_up v hi f g h t)))))
