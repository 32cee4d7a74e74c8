-- All words are proper, or one is not.
use Rattle.std.proofs.Common.{◌≡◌, ◌≢◌, ℕ, suc, Bool, true, false, List, [], ◌∷◌, refl, inl, inr, arith, codes}
use Rattle.std.specs.Prelude.{◌⊎◌}
use Rattle.std.specs.List.{All, Any}
use Rattle.std.specs.Str.{IsUtf8, is_utf8}
use Rattle.std.proofs.lemmas.Bool.{both_ways}
use Rattle.std.proofs.lemmas.List.Elements.{All-nil, All-cons}
use Rattle.std.proofs.lemmas.Str.{IsUtf8-from_is_utf8, is_utf8-from_IsUtf8}
use Rattle.list_lemmas.proofs.Texts.{same_or_not}
use Rattle.ptg_words.specs.Words.{IsProper}

text_or_not : (w : List ℕ) → IsUtf8 w ⊎ (IsUtf8 w → ⊥)
text_or_not w = go (is_utf8 w) refl
  where
    go : (b : Bool) → is_utf8 w ≡ b → IsUtf8 w ⊎ (IsUtf8 w → ⊥)
    go true e = inl (IsUtf8-from_is_utf8 w e)
    go false e = inr (λ u. both_ways (is_utf8 w) e (is_utf8-from_IsUtf8 w u))

proper_or_not : (w : List ℕ) → IsProper w ⊎ (IsProper w → ⊥)
proper_or_not w = go (text_or_not w) (same_or_not w []) (same_or_not w (codes "-")) (same_or_not w (codes "--"))
  where
    go : IsUtf8 w ⊎ (IsUtf8 w → ⊥) → (w ≡ []) ⊎ (w ≢ []) → (w ≡ codes "-") ⊎ (w ≢ codes "-")
        → (w ≡ codes "--") ⊎ (w ≢ codes "--") → IsProper w ⊎ (IsProper w → ⊥)
    go (inl text) (inr some) (inr dash) (inr dashes) = inl (text, some, dash, dashes)
    go (inr bad) b c d = inr (λ p. bad p.0)
    go (inl text) (inl e) c d = inr (λ p. p.1 e)
    go (inl text) (inr some) (inl e) d = inr (λ p. p.2 e)
    go (inl text) (inr some) (inr dash) (inl e) = inr (λ p. p.3 e)

-- all words are proper, or one is not
pub all_or_any : (ws : List (List ℕ)) → All IsProper ws ⊎ Any (λ w. IsProper w → ⊥) ws
all_or_any [] = inl (All-nil IsProper)
all_or_any (w ∷ ws) = go (proper_or_not w) (all_or_any ws)
  where
    go : IsProper w ⊎ (IsProper w → ⊥) → All IsProper ws ⊎ Any (λ v. IsProper v → ⊥) ws → All IsProper (w ∷ ws) ⊎ Any (λ v. IsProper v → ⊥) (w ∷ ws)
    go (inr bad) rest = inr (0, w, omega arith, refl, bad)
    go (inl p) (inl all) = inl (All-cons IsProper w ws p all)
    go (inl p) (inr any) = inr (suc any.0, any.1, let lt = any.2 in omega (arith, lt), any.3, any.4)
