-- The names at a front of a text have no fault, or that of the whole text, whatever follows the next token.
use Rattle.std.proofs.Common.{◌≡◌, ℕ, zero, suc, ◌<◌, List, [], ◌∷◌, ◌++◌, length, Ok, Err, ◌⊎◌, inl, inr, refl, ap, arith}
use Rattle.grammar_core.specs.declared.token.Token.{Token}
use Rattle.ptg_base.specs.Returns.{and_then}
use Rattle.body_lang.specs.Environment.{Environment}
use Rattle.expr_names.specs.Symbols.{Resolved}
use Rattle.body_lang.specs.TokenScan.{TokenScan, after_token, judged, judged_among}

module _ (scope : Environment) where
  pub none_or_whole : (st : TokenScan) (n : ℕ) (s : List Token)
      → (judged_among scope st n s ≡ Ok tt) ⊎ (judged_among scope st n s ≡ judged_among scope st (length s) s)
  none_or_whole st zero s = inl refl
  none_or_whole st (suc n) [] = inl refl
  none_or_whole st (suc n) (x ∷ s) = go (judged scope st (x ∷ s)) (none_or_whole (after_token x st) n s)
    where
      go : (v : Resolved (Unit {0})) → (judged_among scope (after_token x st) n s ≡ Ok tt)
          ⊎ (judged_among scope (after_token x st) n s ≡ judged_among scope (after_token x st) (length s) s)
          → (and_then v (λ _. judged_among scope (after_token x st) n s) ≡ Ok tt)
          ⊎ (and_then v (λ _. judged_among scope (after_token x st) n s)
          ≡ and_then v (λ _. judged_among scope (after_token x st) (length s) s))
      go (Ok u) h = h
      go (Err e) h = inr refl

  pub whatever_after : (st : TokenScan) (n : ℕ) (w r q : List Token) → n < length w → judged_among scope st n (w ++ r) ≡ judged_among scope st n (w ++ q)
  whatever_after st zero w r q h = refl
  whatever_after st (suc n) [] r q h = absurd (omega arith)
  whatever_after st (suc n) (x ∷ []) r q h = absurd (omega arith)
  whatever_after st (suc n) (x ∷ (y ∷ w)) r q h =
      ap (λ (u : Resolved (Unit {0})). and_then (judged scope st (x ∷ (y ∷ (w ++ r)))) (λ _. u))
      (whatever_after (after_token x st) n (y ∷ w) r q (omega (arith, h)))
