-- Whether one of the first numbers has a property, whether a text begins with a word, and where a text is cut.
use Rattle.std.proofs.Common.{◌≡◌, ◌==◌, ℕ, zero, suc, ◌<◌, not, nat_eq, List, [], ◌∷◌, ◌++◌, length, take, drop, refl, ap, subst, ◌⊎◌, inl, inr, arith}
use Rattle.std.specs.Cmp.Lexicographic.{pointwise}
use Rattle.std.proofs.lemmas.Bool.{cases_lt, and_from}
use Rattle.list_lemmas.proofs.Truth.{by_test}
use Rattle.list_lemmas.proofs.Texts.{other_word, word_first}
use Rattle.trace_core.specs.Cutting.{IsCut, is_free_of}

-- a number below m has the property, or none has
module _ (Q : ℕ → Type 0) (decide : (n : ℕ) → Q n ⊎ (Q n → ⊥)) where
  pub one_below : (m : ℕ) → ((n : ℕ) × (n < m) × Q n) ⊎ ((n : ℕ) → n < m → Q n → ⊥)
  one_below zero = inr (λ n lt q. absurd (omega (arith, lt)))
  one_below (suc m) = elim (one_below m) [
    | inl p ↦ inl (p.0, omega (arith, p.1), p.2)
    | inr none ↦ elim (decide m) [
      | inl q ↦ inl (m, omega arith, q)
      | inr fails ↦ inr (λ n lt q. elim (cases_lt n m) [
        | inl less ↦ none n less q
        | inr ge ↦ let e : n ≡ m = omega (arith, lt, ge) in fails (subst Q e q)
      ])
    ]
  ]

-- a text begins with a word, or not
pub begins_or_not : (word text : List ℕ) → ((rest : List ℕ) × (text ≡ word ++ rest)) ⊎ ((rest : List ℕ) → text ≡ word ++ rest → ⊥)
begins_or_not word text =
    by_test (pointwise nat_eq (take (length word) text) word)
    (λ k. inl (drop (length word) text, word_first text word (drop (length word) text) k refl))
    (λ k. inr (other_word text word k))

-- each text is cut somewhere
pub cut_at : (c : ℕ) (text : List ℕ) → (front rest : List ℕ) × IsCut c text front rest
cut_at c [] = ([], [], record { split = refl; free = refl; next = refl })
cut_at c (b ∷ bs) =
    by_test (b == c)
    (λ k. ([], b ∷ bs, record { split = refl; free = refl; next = k }))
    (λ k.
    let later = cut_at c bs in (
      b ∷ later.0,
      later.1,
      record { split = ap (λ l. b ∷ l) later.2.split; free = and_from (not (b == c)) (is_free_of c later.0) (ap not k) later.2.free; next = later.2.next },
    ))
