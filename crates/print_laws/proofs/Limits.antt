-- A front of the tokens is within a limit if both its tokens and those that count are few enough.
use Rattle.std.proofs.Common.{◌≡◌, ℕ, zero, suc, ◌+◌, ◌≤◌, min, Bool, true, false, cond, List, [], ◌∷◌, ◌++◌, length, get_or, refl, arith}
use Rattle.std.specs.Prelude.{Some, None, nat_lt}
use Rattle.grammar_core.specs.declared.token.Token.{Token}
use Rattle.jdf_lex.specs.declared.terminal.Terminal.{Terminal}
use Rattle.grammar_core.specs.declared.code.Code.{Code}
use Rattle.jdf_lex.specs.Terminals.{set, terminal_of}
use Rattle.grammar_core.specs.TooMany.{token_indices}
use Rattle.grammar_core.specs.TooMany as too_many
use Rattle.jdf_lex.specs.Sets.{limit_at}
use Rattle.grammar_core.specs.CountedLimit.{indices_kept, indices_passed, not_before}
use Rattle.grammar_core.specs.Production.{Fault, cut_at}
use Rattle.std.proofs.lemmas.Bool.{ltb-true}

-- The number of tokens of these terminals.
abbrev pub number_of : (Terminal → Bool) → List Token → ℕ
number_of q [] = 0
number_of q (x ∷ s) = cond (q (terminal_of x)) 1 0 + number_of q s

few_from : (q : Terminal → Bool) (w : List Token) (i cap n : ℕ) (r : List Token) → i + length w ≤ cap
    → number_of q w ≤ n → i + length w ≤ min cap (get_or (token_indices (set q) i (w ++ r)) n cap)
few_from q [] i cap n r a b = omega (arith, not_before (set q) r i n cap)
few_from q (x ∷ w) i cap n r a b = go (q (terminal_of x)) refl n (λ m h. few_from q w (i + 1) cap m r (omega arith) h) b
  where
    go : (c : Bool) → q (terminal_of x) ≡ c → (m : ℕ) → ((l : ℕ) → number_of q w ≤ l
        → i + 1 + length w ≤ min cap (get_or (token_indices (set q) (i + 1) (w ++ r)) l cap))
        → cond c 1 0 + number_of q w ≤ m → i + suc (length w) ≤ min cap (get_or (token_indices (set q) i (x ∷ w ++ r)) m cap)
    go true e zero f h = absurd (omega arith)
    go true e (suc m) f h = rw (indices_kept (set q) i x (w ++ r) e) (omega (arith, f m (omega arith)))
    go false e m f h = rw (indices_passed (set q) i x (w ++ r) e) (omega (arith, f m (omega arith)))

-- A front of at most `cap` tokens with at most n that count is within the limit.
pub few_fit : (q : Terminal → Bool) (w : List Token) (cap n : ℕ) (r : List Token) → length w ≤ cap → number_of q w ≤ n → length w ≤ limit_at q cap n (w ++ r)
unfolding too_many.limit_at
few_fit q w cap n r a b = omega (arith, few_from q w 0 cap n r (omega arith) b)

from_few : (q : Terminal → Bool) (w : List Token) (i cap n : ℕ) (r : List Token)
    → i + length w ≤ min cap (get_or (token_indices (set q) i (w ++ r)) n cap) → number_of q w ≤ n
from_few q [] i cap n r h = omega arith
from_few q (x ∷ w) i cap n r h = go (q (terminal_of x)) refl n (λ m. from_few q w (i + 1) cap m r) h
  where
    go : (c : Bool) → q (terminal_of x) ≡ c → (m : ℕ) → ((l : ℕ)
        → i + 1 + length w ≤ min cap (get_or (token_indices (set q) (i + 1) (w ++ r)) l cap) → number_of q w ≤ l)
        → i + suc (length w) ≤ min cap (get_or (token_indices (set q) i (x ∷ w ++ r)) m cap) → cond c 1 0 + number_of q w ≤ m
    go true e zero f h = let k = rw (indices_kept (set q) i x (w ++ r) e) at h in absurd (omega (arith, k))
    go true e (suc m) f h = let k = rw (indices_kept (set q) i x (w ++ r) e) at h in omega (arith, f m (omega (arith, k)))
    go false e m f h = let k = rw (indices_passed (set q) i x (w ++ r) e) at h in omega (arith, f m (omega (arith, k)))

-- A front within the limit has at most n tokens that count.
pub fit_few : (q : Terminal → Bool) (w : List Token) (cap n : ℕ) (r : List Token) → length w ≤ limit_at q cap n (w ++ r) → number_of q w ≤ n
unfolding too_many.limit_at
fit_few q w cap n r h = from_few q w 0 cap n r (omega arith)

pub number_of-append : (q : Terminal → Bool) (v w : List Token) → number_of q (v ++ w) ≡ number_of q v + number_of q w
number_of-append q [] w = omega arith
number_of-append q (x ∷ v) w = omega (arith, number_of-append q v w)

abbrev AreEqual : Fault → Fault → Type 0
AreEqual a b = a ≡ b

-- If there is no token too many, there is no fault.
pub no_cut : (l : ℕ) (c : Code) (n : ℕ) → n ≤ l → AreEqual None (cut_at l c n None)
no_cut l c n h = go (nat_lt l n) refl
  where
    go : (b : Bool) → nat_lt l n ≡ b → AreEqual None (cond b (Some (l, c)) None)
    go true e = let k = ltb-true l n e in absurd (omega (arith, k))
    go false e = refl
