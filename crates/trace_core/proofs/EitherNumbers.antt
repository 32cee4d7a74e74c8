-- Whether a text begins with a number, and whether it is numbers.
use Rattle.std.proofs.Common.{◌≡◌, ◌≢◌, ◌==◌, ℕ, zero, suc, ◌≤◌, ℤ, pos, negsuc, ◌<◌, true, List, [], ◌∷◌, length, refl, sym, ◌∙◌, ◌⊎◌, inl, inr, arith}
use Rattle.std.specs.Fmt.{signed_decimal}
use Rattle.std.proofs.lemmas.Bool.{eqb-true, false≢true, eq-eqb, lt-ltb, ltb-true}
use Rattle.list_lemmas.proofs.Truth.{by_test}
use Rattle.list_lemmas.proofs.Texts.{same_or_not}
use Rattle.trace_core.specs.Rows.{BeginsWithNumber, HasNoNumber, IsOfNumbers}
use Rattle.trace_core.specs.Spelling.{is_number}
use Rattle.trace_core.proofs.Fields.{field_none, no_numbers, numbers_more}
use Rattle.trace_core.proofs.NoRows.{fewer, field_some, not_numbers, nothing_first, other_first}
use Rattle.trace_core.proofs.Deciding.{cut_at, one_below}

-- a field is a number that fits 64 bits
abbrev IsNumber : List ℕ → Type 0
IsNumber field = (n : ℤ) × (is_number n ≡ true) × (field ≡ signed_decimal n)

number_or_none : (field : List ℕ) → IsNumber field ⊎ ((n : ℤ) → is_number n ≡ true → field ≢ signed_decimal n)
number_or_none field =
    elim (one_below (λ n. field ≡ signed_decimal (pos n)) (λ n. same_or_not field (signed_decimal (pos n))) 9223372036854775808) [
      | inl p ↦ inl (pos p.0, lt-ltb p.0 9223372036854775808 p.1, p.2)
      | inr none ↦ elim (one_below (λ n. field ≡ signed_decimal (negsuc n)) (λ n. same_or_not field (signed_decimal (negsuc n))) 9223372036854775808) [
        | inl p ↦ inl (negsuc p.0, lt-ltb p.0 9223372036854775808 p.1, p.2)
        | inr nor ↦ inr (neither none nor)
      ]
    ]
  where
    neither : ((n : ℕ) → n < 9223372036854775808 → field ≡ signed_decimal (pos n) → ⊥)
        → ((n : ℕ) → n < 9223372036854775808 → field ≡ signed_decimal (negsuc n) → ⊥) → (n : ℤ) → is_number n ≡ true
        → field ≢ signed_decimal n
    neither none nor (pos n) fits e = none n (ltb-true n 9223372036854775808 fits) e
    neither none nor (negsuc n) fits e = nor n (ltb-true n 9223372036854775808 fits) e

next_or_none : (text : List ℕ) → ((n : ℤ) × (later : List ℕ) × BeginsWithNumber text n later) ⊎ HasNoNumber text
next_or_none [] = inr (nothing_first [] refl)
next_or_none (b ∷ bs) =
    by_test (b == 44)
    (λ k.
    let comma : b ∷ bs ≡ 44 ∷ bs = (λ i. eqb-true b 44 k i ∷ bs) in
    let cut = cut_at 44 bs in
    elim (number_or_none cut.0) [
      | inl p ↦ inl (p.0, cut.1, field_some (b ∷ bs) bs cut.0 cut.1 p.0 comma cut.2 p.1 p.2)
      | inr none ↦ inr (field_none (b ∷ bs) bs cut.0 cut.1 comma cut.2 none)
    ])
    (λ k. inr (other_first (b ∷ bs) bs b refl (λ e. false≢true (sym k ∙ eq-eqb b 44 e))))

pub numbers_or_not : (n : ℕ) (text : List ℕ) → length text ≤ n → IsOfNumbers text ⊎ (IsOfNumbers text → ⊥)
numbers_or_not n [] le = inl (no_numbers [] refl)
numbers_or_not zero (b ∷ bs) le = absurd (omega (arith, le))
numbers_or_not (suc n) (b ∷ bs) le = elim (next_or_none (b ∷ bs)) [
  | inr none ↦ inr (not_numbers (b ∷ bs) none (λ e. cc))
  | inl p ↦
      let shorter = fewer (b ∷ bs) p.1 p.0 p.2 in
      let more = numbers_more (b ∷ bs) p.1 p.0 p.2 in
      elim (numbers_or_not n p.1 (omega (arith, le, shorter))) [
        | inl all ↦ inl (more.0 all)
        | inr fails ↦ inr (λ h. fails (more.1 h))
      ]
]
