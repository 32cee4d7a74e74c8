-- The index of the first token that is too many, by count, is a limit: proofs of the properties of limits. They are in
-- specs/ because a limit by count has them as its fields.
-- Carried by: law `text_laws::is_read_exactly`; the readers of `expr_read`, `jdf_read`, `body_lang`.
-- Tested by: `body_limits.txt`, `too_many.txt`, `long_expressions.txt`.
use Rattle.std.proofs.Common.{◌≡◌, ℕ, zero, suc, ◌+◌, ◌≤◌, min, Bool, true, false, List, [], ◌∷◌, ◌++◌, length, get_or, refl, arith}
use Rattle.grammar_core.specs.declared.token.Token.{Token}
use Rattle.grammar_core.specs.Terminals.{Terminal}
use Rattle.grammar_core.specs.Terminals.{terminal_of}
use Rattle.grammar_core.specs.TooMany.{token_indices, limit_at}

module _ (q : Terminal → Bool) where
  pub indices_none : (i : ℕ) → token_indices q i [] ≡ []
  unfolding token_indices
  indices_none i = refl

  pub indices_kept : (i : ℕ) (x : Token) (s : List Token) → q (terminal_of x) ≡ true
      → token_indices q i (x ∷ s) ≡ i ∷ token_indices q (i + 1) s
  unfolding token_indices
  indices_kept i x s t = rw t refl

  pub indices_passed : (i : ℕ) (x : Token) (s : List Token) → q (terminal_of x) ≡ false
      → token_indices q i (x ∷ s) ≡ token_indices q (i + 1) s
  unfolding token_indices
  indices_passed i x s f = rw f refl

  -- no index is below that of the first token
  pub not_before : (s : List Token) (i n d : ℕ) → min i d ≤ get_or (token_indices q i s) n d
  not_before [] i n d = rw (indices_none i) (omega arith)
  not_before (x ∷ s) i n d = go (q (terminal_of x)) refl n (λ m. not_before s (i + 1) m d)
    where
      go : (b : Bool) → q (terminal_of x) ≡ b → (m : ℕ)
          → ((l : ℕ) → min (i + 1) d ≤ get_or (token_indices q (i + 1) s) l d)
          → min i d ≤ get_or (token_indices q i (x ∷ s)) m d
      go true e zero f = rw (indices_kept i x s e) (omega arith)
      go true e (suc m) f = rw (indices_kept i x s e) (omega (arith, f m))
      go false e m f = rw (indices_passed i x s e) (omega (arith, f m))

  -- limit_keeps and limit_stays if the first token has index i
  keeps_from : (w : List Token) (i cap n : ℕ) (r r' : List Token)
      → i + length w ≤ min cap (get_or (token_indices q i (w ++ r)) n cap)
      → i + length w ≤ min cap (get_or (token_indices q i (w ++ r')) n cap)
  keeps_from [] i cap n r r' h = omega (arith, not_before r' i n cap)
  keeps_from (x ∷ w) i cap n r r' h = go (q (terminal_of x)) refl n (λ m. keeps_from w (i + 1) cap m r r') h
    where
      go : (b : Bool) → q (terminal_of x) ≡ b → (m : ℕ)
          → ((l : ℕ) → i + 1 + length w ≤ min cap (get_or (token_indices q (i + 1) (w ++ r)) l cap)
          → i + 1 + length w ≤ min cap (get_or (token_indices q (i + 1) (w ++ r')) l cap))
          → i + suc (length w) ≤ min cap (get_or (token_indices q i (x ∷ w ++ r)) m cap)
          → i + suc (length w) ≤ min cap (get_or (token_indices q i (x ∷ w ++ r')) m cap)
      go true e zero f h = let k = rw (indices_kept i x (w ++ r) e) at h in absurd (omega (arith, k))
      go true e (suc m) f h =
          let k = rw (indices_kept i x (w ++ r) e) at h in
          rw (indices_kept i x (w ++ r') e) (omega (arith, f m (omega (arith, k))))
      go false e m f h =
          let k = rw (indices_passed i x (w ++ r) e) at h in
          rw (indices_passed i x (w ++ r') e) (omega (arith, f m (omega (arith, k))))

  stays_from : (w : List Token) (i cap n : ℕ) (x : Token) (r r' : List Token)
      → min cap (get_or (token_indices q i (w ++ x ∷ r)) n cap) ≡ i + length w
      → min cap (get_or (token_indices q i (w ++ x ∷ r')) n cap) ≡ i + length w
  stays_from [] i cap n x r r' h = go (q (terminal_of x)) refl n h
    where
      go : (b : Bool) → q (terminal_of x) ≡ b → (m : ℕ) → min cap (get_or (token_indices q i (x ∷ r)) m cap) ≡ i + 0
          → min cap (get_or (token_indices q i (x ∷ r')) m cap) ≡ i + 0
      go true e zero h = let k = rw (indices_kept i x r e) at h in rw (indices_kept i x r' e) k
      go true e (suc m) h =
          let k = rw (indices_kept i x r e) at h in
          rw (indices_kept i x r' e) (omega (arith, k, not_before r (i + 1) m cap, not_before r' (i + 1) m cap))
      go false e m h =
          let k = rw (indices_passed i x r e) at h in
          rw (indices_passed i x r' e) (omega (arith, k, not_before r (i + 1) m cap, not_before r' (i + 1) m cap))
  stays_from (y ∷ w) i cap n x r r' h = go (q (terminal_of y)) refl n (λ m. stays_from w (i + 1) cap m x r r') h
    where
      go : (b : Bool) → q (terminal_of y) ≡ b → (m : ℕ)
          → ((l : ℕ) → min cap (get_or (token_indices q (i + 1) (w ++ x ∷ r)) l cap) ≡ i + 1 + length w
          → min cap (get_or (token_indices q (i + 1) (w ++ x ∷ r')) l cap) ≡ i + 1 + length w)
          → min cap (get_or (token_indices q i (y ∷ w ++ x ∷ r)) m cap) ≡ i + suc (length w)
          → min cap (get_or (token_indices q i (y ∷ w ++ x ∷ r')) m cap) ≡ i + suc (length w)
      go true e zero f h = let k = rw (indices_kept i y (w ++ x ∷ r) e) at h in absurd (omega (arith, k))
      go true e (suc m) f h =
          let k = rw (indices_kept i y (w ++ x ∷ r) e) at h in
          rw (indices_kept i y (w ++ x ∷ r') e) (omega (arith, f m (omega (arith, k))))
      go false e m f h =
          let k = rw (indices_passed i y (w ++ x ∷ r) e) at h in
          rw (indices_passed i y (w ++ x ∷ r') e) (omega (arith, f m (omega (arith, k))))

  pub limit_keeps : (w : List Token) (cap n : ℕ) (r r' : List Token) → length w ≤ limit_at q cap n (w ++ r)
      → length w ≤ limit_at q cap n (w ++ r')
  unfolding limit_at
  limit_keeps w cap n r r' h = omega (arith, keeps_from w 0 cap n r r' (omega arith))

  pub limit_stays : (w : List Token) (cap n : ℕ) (x : Token) (r r' : List Token)
      → limit_at q cap n (w ++ x ∷ r) ≡ length w → limit_at q cap n (w ++ x ∷ r') ≡ length w
  unfolding limit_at
  limit_stays w cap n x r r' h = omega (arith, stays_from w 0 cap n x r r' (omega arith))

  pub limit_one : (cap n : ℕ) (s : List Token) → 1 ≤ limit_at q (suc cap) (suc n) s
  unfolding limit_at
  limit_one cap n [] = rw (indices_none 0) (omega arith)
  limit_one cap n (x ∷ s) = go (q (terminal_of x)) refl
    where
      go : (b : Bool) → q (terminal_of x) ≡ b → 1 ≤ min (suc cap) (get_or (token_indices q 0 (x ∷ s)) (suc n) (suc cap))
      go true e = rw (indices_kept 0 x s e) (omega (arith, not_before s 1 n (suc cap)))
      go false e = rw (indices_passed 0 x s e) (omega (arith, not_before s 1 (suc n) (suc cap)))
