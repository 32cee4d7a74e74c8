-- Limits by a test of a token with the tokens before it.
-- Carried by: the readers of `expr_read`, `jdf_read`, `body_lang`.
-- Tested by: `body_limits.txt`, `too_many.txt`, `long_expressions.txt`.
use Rattle.std.proofs.Common.{◌≡◌, ℕ, suc, ◌≤◌, Bool, true, false, cond, List, [], ◌∷◌, ◌++◌, length, refl, arith}
use Rattle.std.specs.Prelude.{if◌then◌else◌}
use Rattle.grammar_core.specs.declared.token.Token.{Token}
use Rattle.grammar_core.specs.Production.{Limit}

-- The index of the first token that is too many according to the test p; one more than the number of tokens if none is.
-- The list `front` has the tokens before these.
unfoldable pub index_by : (List Token → Token → Bool) → List Token → List Token → ℕ
index_by p front [] = 1
index_by p front (x ∷ s) = if p front x then 0 else suc (index_by p (front ++ x ∷ []) s)

-- if the limit after the next token is kept, so is the one before it
step_keeps : (b : Bool) (n y y' : ℕ) → (n ≤ y → n ≤ y') → suc n ≤ cond b 0 (suc y) → suc n ≤ cond b 0 (suc y')
step_keeps true n y y' f h = h
step_keeps false n y y' f h = let k = f (omega arith) in omega (arith, k)

-- if the limit after the next token stays where it is, so does the one before it
step_stays : (b : Bool) (n y y' : ℕ) → (y ≡ n → y' ≡ n) → cond b 0 (suc y) ≡ suc n → cond b 0 (suc y') ≡ suc n
step_stays true n y y' f h = absurd (omega arith)
step_stays false n y y' f h = let k = f (omega arith) in omega (arith, k)

module _ (p : List Token → Token → Bool) where
  pub index_keeps : (w front r r' : List Token) → length w ≤ index_by p front (w ++ r)
      → length w ≤ index_by p front (w ++ r')
  unfolding index_by
  index_keeps [] front r r' h = omega arith
  index_keeps (x ∷ w) front r r' h = step_keeps (p front x) (length w) _ _ (index_keeps w (front ++ x ∷ []) r r') h

  pub index_stays : (w front : List Token) (x : Token) (r r' : List Token) → index_by p front (w ++ x ∷ r) ≡ length w
      → index_by p front (w ++ x ∷ r') ≡ length w
  unfolding index_by
  index_stays [] front x r r' h = go (p front x) h
    where
      go : (b : Bool) → cond b 0 (suc (index_by p (front ++ x ∷ []) r)) ≡ 0
          → cond b 0 (suc (index_by p (front ++ x ∷ []) r')) ≡ 0
      go true h = refl
      go false h = absurd (omega arith)
  index_stays (y ∷ w) front x r r' h = step_stays (p front y) (length w) _ _ (index_stays w (front ++ y ∷ []) x r r') h

  pub index_one : ((x : Token) → p [] x ≡ false) → (s : List Token) → 1 ≤ index_by p [] s
  unfolding index_by
  index_one none [] = omega arith
  index_one none (x ∷ s) = rw (none x) (omega arith)

-- The limit by a test that no first token passes.
abbrev pub limit_by : (p : List Token → Token → Bool) → ((x : Token) → p [] x ≡ false) → Limit
limit_by p none =
    record {
      at = index_by p [];
      one = index_one p none;
      keeps = λ w r r' h. index_keeps p w [] r r' h;
      stays = λ w x r r' h. index_stays p w [] x r r' h;
    }
