-- The search for the first token that is too many, one token after the other.
use Rattle.std.proofs.Common.{◌≡◌, ℕ, zero, suc, ◌+◌, ◌-◌, ◌≤◌, ◌<◌, Bool, true, false, cond, List, [], ◌∷◌, ◌++◌, length, take, drop, refl, sym, ap}
use Rattle.std.proofs.Common.{◌∙◌, arith, add-one}
use Rattle.std.specs.Prelude.{nat_le, ◌&&◌}
use Rattle.std.proofs.lemmas.List.{drop_all, length-drop}
use Rattle.std.proofs.lemmas.List.Sums.{sum_by_push}
use Rattle.grammar_core.specs.declared.token.Token.{Token}
use Rattle.jdf_lex.specs.declared.terminal.Terminal.{Terminal}
use Rattle.jdf_lex.specs.declared.terminal.Terminal.TheVariants as terminal
use Rattle.grammar_core.specs.LimitBy.{index_by}
use Rattle.jdf_lex.specs.Sets.{starts}
use Rattle.jdf_lex.specs.Terminals.{terminal_of, is}
use Rattle.jdf_tree.specs.BodyLimits.{how_many, open_blocks, most_blocks, is_too_deep, declares, is_too_many, block_limit, variable_limit}

-- i tokens have been passed so far
module _ (p : List Token → Token → Bool) (s : List Token) (i total : ℕ) (same : i + index_by p (take i s) (drop i s) ≡ total) where
  pub stops_at : (x : Token) (r : List Token) → drop i s ≡ x ∷ r → p (take i s) x ≡ true → i ≡ total
  unfolding index_by
  stops_at x r e h = let k : index_by p (take i s) (x ∷ r) ≡ 0 = rw h refl in omega (arith, same, ap (index_by p (take i s)) e, k)

  pub goes_on : (x : Token) (r : List Token) → drop i s ≡ x ∷ r → take (i + 1) s ≡ take i s ++ x ∷ []
      → drop (i + 1) s ≡ r → p (take i s) x ≡ false → i + 1 + index_by p (take (i + 1) s) (drop (i + 1) s) ≡ total
  unfolding index_by
  goes_on x r e front back h =
      let k : index_by p (take i s) (x ∷ r) ≡ suc (index_by p (take i s ++ x ∷ []) r) = rw h refl in
      let m : index_by p (take (i + 1) s) (drop (i + 1) s) ≡ index_by p (take i s ++ x ∷ []) r =
      ap (λ (l : List Token). index_by p l (drop (i + 1) s)) front
      ∙ ap (index_by p (take i s ++ x ∷ [])) back in
      omega (arith, same, ap (index_by p (take i s)) e, k, m)

  pub none_comes : length s ≤ i → i + 1 ≡ total
  unfolding index_by
  none_comes h = omega (arith, same, ap (index_by p (take i s)) (drop_all i s h))

-- there is a token at each index before the end
none_left : (s : List Token) (i : ℕ) → i < length s → drop i s ≡ [] → ⊥
none_left s i lt e = omega (arith, length-drop i s, ap (λ (l : List Token). length l) e, lt)

-- the token at an index, and the tokens before and after it
split_at : (s : List Token) (i : ℕ) (x : Token) (r : List Token) → drop i s ≡ x ∷ r → (take (i + 1) s ≡ take i s ++ x ∷ []) × (drop (i + 1) s ≡ r)
split_at [] zero x r e = absurd cc
split_at (y ∷ s) zero x r e =
    let same : y ≡ x = cc in let rest : s ≡ r = cc in
    (ap (λ (z : Token). z ∷ []) same, rest)
split_at [] (suc i) x r e = absurd cc
split_at (y ∷ s) (suc i) x r e = let k = split_at s i x r e in (
  rw (add-one) (ap (λ (l : List Token). y ∷ l) (ap (λ (n : ℕ). take n s) (sym (add-one i)) ∙ k.0)),
  rw (add-one)
      (ap (λ (n : ℕ). drop n s) (sym (add-one i)) ∙ k.1),
)

-- one more is counted if it is one of these terminals
more_of : (q : Terminal → Bool) (front : List Token) (x : Token) → how_many q (front ++ x ∷ []) ≡ how_many q front + cond (q (terminal_of x)) 1 0
more_of q front x = sum_by_push (λ y. cond (q (terminal_of y)) 1 0) front x

-- a whole body begins with the same token as each nonempty front of it
begins_alike : (q : Terminal → Bool) (s : List Token) (i : ℕ) → 0 < i → starts q (take i s) ≡ starts q s
begins_alike q [] zero h = refl
begins_alike q [] (suc i) h = refl
begins_alike q (x ∷ s) zero h = absurd (omega arith)
begins_alike q (x ∷ s) (suc i) h = refl

-- in this test the bound of a front agrees with that of the whole body: before the first token no block is open
bound_is : (s : List Token) (i opened closed : ℕ) → opened ≡ how_many (is terminal.LeftBrace) (take i s) → closed ≡ how_many (is terminal.RightBrace) (take i s)
    → nat_le (most_blocks (take i s)) (open_blocks (take i s)) ≡ nat_le (most_blocks s) (opened - closed)
bound_is s zero opened closed e f = rw (e, f) (go (starts (is terminal.LeftBrace) s))
  where
    go : (b : Bool) → false ≡ nat_le (cond b 33 32) 0
    go true = refl
    go false = refl
bound_is s (suc i) opened closed e f = rw (e, f, begins_alike (is terminal.LeftBrace) s (suc i) (omega arith)) refl

-- what a test of the next token says about the first of these tokens
next_of : (q : Terminal → Bool) (b : Bool) (x : Token) (r rest : List Token) → rest ≡ x ∷ r → b ≡ starts q rest → q (terminal_of x) ≡ b
next_of q b x r rest e h = sym (h ∙ ap (starts q) e)

-- what the code knows at a token: the counts of the tokens before it, and that a search from here on finds the limit
pub record BlocksSoFar (s : List Token) (i opened closed : ℕ) : Type 0 where
  pub opens : opened ≡ how_many (is terminal.LeftBrace) (take i s)
  pub closes : closed ≡ how_many (is terminal.RightBrace) (take i s)
  pub opened_at_most : opened ≤ i
  pub closed_at_most : closed ≤ i
  pub same : i + index_by is_too_deep (take i s) (drop i s) ≡ block_limit.at s

pub blocks_begin : (s : List Token) → BlocksSoFar s 0 0 0
unfolding block_limit
blocks_begin s = record { opens = refl; closes = refl; opened_at_most = omega arith; closed_at_most = omega arith; same = omega arith }

module _ (s : List Token) (i opened closed : ℕ) (far : BlocksSoFar s i opened closed) where
  -- the test in the code is that of the limit
  tests_alike : (opens : Bool) (x : Token) (r : List Token) → drop i s ≡ x ∷ r → opens ≡ starts (is terminal.LeftBrace) (drop i s)
      → is_too_deep (take i s) x ≡ (opens && nat_le (most_blocks s) (opened - closed))
  unfolding is_too_deep
  tests_alike opens x r e h =
      ap (λ (b : Bool). b && nat_le (most_blocks (take i s)) (open_blocks (take i s))) (next_of (is terminal.LeftBrace) opens x r (drop i s) e h)
      ∙ ap (λ (b : Bool). opens && b) (bound_is s i opened closed far.opens far.closes)

  pub blocks_end : length s ≤ i → i + 1 ≡ block_limit.at s
  blocks_end h = none_comes is_too_deep s i (block_limit.at s) far.same h

  pub blocks_stop : (opens : Bool) → i < length s → opens ≡ starts (is terminal.LeftBrace) (drop i s) → opens ≡ true
      → nat_le (most_blocks s) (opened - closed) ≡ true → i ≡ block_limit.at s
  blocks_stop opens lt h here deep = go (drop i s) refl
    where
      go : (rest : List Token) → drop i s ≡ rest → i ≡ block_limit.at s
      go [] e = absurd (none_left s i lt e)
      go (x ∷ r) e = stops_at is_too_deep s i (block_limit.at s) far.same x r e (tests_alike opens x r e h ∙ rw (here, deep) refl)

  pub blocks_go_on : (opens closes : Bool) → i < length s → opens ≡ starts (is terminal.LeftBrace) (drop i s)
      → closes ≡ starts (is terminal.RightBrace) (drop i s)
      → (opens && nat_le (most_blocks s) (opened - closed)) ≡ false → BlocksSoFar s (i + 1) (opened + cond opens 1 0) (closed + cond closes 1 0)
  blocks_go_on opens closes lt h k fits = go (drop i s) refl
    where
      small : (b : Bool) → cond b 1 0 ≤ 1
      small true = omega arith
      small false = omega arith

      go : (rest : List Token) → drop i s ≡ rest → BlocksSoFar s (i + 1) (opened + cond opens 1 0) (closed + cond closes 1 0)
      go [] e = absurd (none_left s i lt e)
      go (x ∷ r) e =
          let cut = split_at s i x r e in
          record {
            opens = ap (λ (n : ℕ). n + cond opens 1 0) far.opens
                ∙ (ap (λ (b : Bool). how_many (is terminal.LeftBrace) (take i s) + cond b 1 0)
                (sym (next_of (is terminal.LeftBrace) opens x r (drop i s) e h))
                ∙ (sym (more_of (is terminal.LeftBrace) (take i s) x)
                ∙ ap (how_many (is terminal.LeftBrace)) (sym cut.0)));
            closes = ap (λ (n : ℕ). n + cond closes 1 0) far.closes
                ∙ (ap (λ (b : Bool). how_many (is terminal.RightBrace) (take i s) + cond b 1 0)
                (sym (next_of (is terminal.RightBrace) closes x r (drop i s) e k))
                ∙ (sym (more_of (is terminal.RightBrace) (take i s) x)
                ∙ ap (how_many (is terminal.RightBrace)) (sym cut.0)));
            opened_at_most = omega (arith, small opens, far.opened_at_most);
            closed_at_most = omega (arith, small closes, far.closed_at_most);
            same = goes_on is_too_deep s i (block_limit.at s) far.same x r e cut.0 cut.1 (tests_alike opens x r e h ∙ fits);
          }

-- the same for declarations
pub record VariablesSoFar (s : List Token) (i declared : ℕ) : Type 0 where
  pub declares_so_far : declared ≡ how_many declares (take i s)
  pub at_most : declared ≤ i
  pub same : i + index_by is_too_many (take i s) (drop i s) ≡ variable_limit.at s

pub variables_begin : (s : List Token) → VariablesSoFar s 0 0
unfolding variable_limit
variables_begin s = record { declares_so_far = refl; at_most = omega arith; same = omega arith }

module _ (s : List Token) (i declared : ℕ) (far : VariablesSoFar s i declared) where
  tests_many : (here : Bool) (x : Token) (r : List Token) → drop i s ≡ x ∷ r → here ≡ starts declares (drop i s)
      → is_too_many (take i s) x ≡ (here && nat_le 256 declared)
  unfolding is_too_many
  tests_many here x r e h =
      ap (λ (b : Bool). b && nat_le 256 (how_many declares (take i s))) (next_of declares here x r (drop i s) e h)
      ∙ ap (λ (n : ℕ). here && nat_le 256 n) (sym far.declares_so_far)

  pub variables_end : length s ≤ i → i + 1 ≡ variable_limit.at s
  variables_end h = none_comes is_too_many s i (variable_limit.at s) far.same h

  pub variables_stop : (here : Bool) → i < length s → here ≡ starts declares (drop i s) → here ≡ true → nat_le 256 declared ≡ true → i ≡ variable_limit.at s
  variables_stop here lt h one many = go (drop i s) refl
    where
      go : (rest : List Token) → drop i s ≡ rest → i ≡ variable_limit.at s
      go [] e = absurd (none_left s i lt e)
      go (x ∷ r) e = stops_at is_too_many s i (variable_limit.at s) far.same x r e (tests_many here x r e h ∙ rw (one, many) refl)

  pub variables_go_on : (here : Bool) → i < length s → here ≡ starts declares (drop i s)
      → (here && nat_le 256 declared) ≡ false → VariablesSoFar s (i + 1) (declared + cond here 1 0)
  variables_go_on here lt h fits = go (drop i s) refl
    where
      small : (b : Bool) → cond b 1 0 ≤ 1
      small true = omega arith
      small false = omega arith

      go : (rest : List Token) → drop i s ≡ rest → VariablesSoFar s (i + 1) (declared + cond here 1 0)
      go [] e = absurd (none_left s i lt e)
      go (x ∷ r) e =
          let cut = split_at s i x r e in
          record {
            declares_so_far = ap (λ (n : ℕ). n + cond here 1 0) far.declares_so_far
                ∙ (ap (λ (b : Bool). how_many declares (take i s) + cond b 1 0)
                (sym (next_of declares here x r (drop i s) e h))
                ∙ (sym (more_of declares (take i s) x) ∙ ap (how_many declares) (sym cut.0)));
            at_most = omega (arith, small here, far.at_most);
            same = goes_on is_too_many s i (variable_limit.at s) far.same x r e cut.0 cut.1 (tests_many here x r e h ∙ fits);
          }
