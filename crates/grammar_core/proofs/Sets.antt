-- What the tests of all terminals imply.
use Rattle.std.proofs.Common.{◌≡◌, ℕ, zero, suc, ◌<◌, Bool, true, false, List, [], ◌∷◌, refl, sym, inl, inr, ap, subst, arith}
use Rattle.std.specs.Prelude.{◌&&◌, ◌||◌, not}
use Rattle.std.proofs.lemmas.Bool.{and_parts, or_cases, not-true, both_ways, cases_Bool, cases_lt, or_right}
use Rattle.grammar_core.specs.declared.token.Token.{Token}
use Rattle.grammar_core.specs.Terminals.{Terminal, terminal_count, terminal_of, all_are, some_is, are_disjoint, is_within}
use Rattle.grammar_core.specs.Reading.{starts}
use Rattle.grammar_core.proofs.Tokens.{terminal_below}

pub all_at : (p : Terminal → Bool) (n : ℕ) → all_are p n ≡ true → (k : Terminal) → k < n → p k ≡ true
all_at p zero h k lt = absurd (omega arith)
all_at p (suc n) h k lt =
    elim (cases_lt k n) [
      | inl less ↦ all_at p n (and_parts (p n) (all_are p n) h).1 k less
      | inr le ↦ let last : n ≡ k = omega arith in subst (λ (x : Terminal). p x ≡ true) last (and_parts (p n) (all_are p n) h).0
    ]

pub disjoint_at : (a b : Terminal → Bool) → are_disjoint a b ≡ true → (x : Token) → a (terminal_of x) ≡ true → b (terminal_of x) ≡ false
disjoint_at a b h x e = go (a (terminal_of x)) (b (terminal_of x)) e (all_at (λ y. not (a y && b y)) terminal_count h (terminal_of x) (terminal_below x))
  where
    go : (s t : Bool) → s ≡ true → not (s && t) ≡ true → t ≡ false
    go true t x e = not-true t e
    go false t x e = absurd cc

pub within_at : (a b : Terminal → Bool) → is_within a b ≡ true → (x : Token) → a (terminal_of x) ≡ true → b (terminal_of x) ≡ true
within_at a b h x e = go (a (terminal_of x)) (b (terminal_of x)) e (all_at (λ y. not (a y) || b y) terminal_count h (terminal_of x) (terminal_below x))
  where
    go : (s t : Bool) → s ≡ true → (not s || t) ≡ true → t ≡ true
    go true t x e = e
    go false t x e = absurd cc

-- two sets with the same terminals have the same tokens
pub alike_at : (a b : Terminal → Bool) → is_within a b ≡ true → is_within b a ≡ true → (x : Token) → a (terminal_of x) ≡ b (terminal_of x)
alike_at a b h k x = go (a (terminal_of x)) (b (terminal_of x)) (within_at a b h x) (within_at b a k x)
  where
    go : (s t : Bool) → (s ≡ true → t ≡ true) → (t ≡ true → s ≡ true) → s ≡ t
    go true t f g = sym (f refl)
    go false true f g = absurd (let e = g refl in cc)
    go false false f g = refl

pub some_at : (p : Terminal → Bool) (n : ℕ) → some_is p n ≡ true → (k : Terminal) × (k < n) × (p k ≡ true)
some_at p zero h = absurd cc
some_at p (suc n) h =
    elim (or_cases (p n) (some_is p n) h) [
      | inl e ↦ (n, omega arith, e)
      | inr e ↦ let k = some_at p n e in (k.0, omega (arith, k.1), k.2)
    ]

some_below : (p : Terminal → Bool) (n : ℕ) (k : Terminal) → k < n → p k ≡ true → some_is p n ≡ true
some_below p zero k lt e = absurd (omega arith)
some_below p (suc n) k lt e =
    elim (cases_lt k n) [
      | inl less ↦ or_right (p n) (some_is p n) (some_below p n k less e)
      | inr le ↦ let last : k ≡ n = omega arith in ap (λ (x : Bool). x || some_is p n) (subst (λ (x : Terminal). p x ≡ true) last e)
    ]

pub some_from : (p : Terminal → Bool) (x : Token) → p (terminal_of x) ≡ true → some_is p terminal_count ≡ true
some_from p x e = some_below p terminal_count (terminal_of x) (terminal_below x) e

-- the same for the next token
pub starts_disjoint : (a b : Terminal → Bool) (s : List Token) → are_disjoint a b ≡ true → starts b s ≡ true → starts a s ≡ false
starts_disjoint a b [] h x = refl
starts_disjoint a b (y ∷ s) h x = elim (cases_Bool (a (terminal_of y))) [ inl t ↦ absurd (both_ways (b (terminal_of y)) (disjoint_at a b h y t) x) | inr f ↦ f ]

pub starts_within : (a b : Terminal → Bool) (s : List Token) → is_within a b ≡ true → starts b s ≡ false → starts a s ≡ false
starts_within a b [] h x = refl
starts_within a b (y ∷ s) h x = elim (cases_Bool (a (terminal_of y))) [ inl t ↦ absurd (both_ways (b (terminal_of y)) x (within_at a b h y t)) | inr f ↦ f ]

pub starts_into : (a b : Terminal → Bool) (s : List Token) → is_within a b ≡ true → starts a s ≡ true → starts b s ≡ true
starts_into a b [] h x = absurd cc
starts_into a b (y ∷ s) h x = within_at a b h y x
