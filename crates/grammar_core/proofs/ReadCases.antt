-- What follows from the result of a step of reading that may fail.
use Rattle.std.proofs.Common.{◌≡◌, ℕ, Bool, true, false, cond, List, [], ◌∷◌, length, Result, Ok, Err, ◌⊎◌, refl, inl, inr, ap, sym, ◌∙◌}
use Rattle.grammar_core.specs.declared.fault.ReadFault.{ReadFault}
use Rattle.grammar_core.specs.declared.token.Token.{Token}
use Rattle.grammar_core.specs.declared.code.Code.{Code}
use Rattle.grammar_core.specs.declared.code.Code.TheVariants.{Syntax}
use Rattle.std.specs.Prelude.{Option, Some, None, ◌-◌, nat_lt}
use Rattle.grammar_core.specs.Terminals.{Terminal}
use Rattle.grammar_core.specs.Terminals.{terminal_of}
use Rattle.grammar_core.specs.Reading.{◌>>=◌, Read, starts, token_at, refuse, check, judge, fault_from_end}
use Rattle.list_lemmas.proofs.Truth.{chosen}
use Rattle.list_lemmas.proofs.Options.{same_Ok, Ok≢Err}

pub bind_ok : {A B : Type 0} (r : Result A ReadFault) (f : A → Result B ReadFault) (y : B) → (r >>= f) ≡ Ok y → (x : A) × (r ≡ Ok x) × (f x ≡ Ok y)
bind_ok (Ok x) f y e = (x, refl, e)
bind_ok (Err d) f y e = absurd cc

pub bind_err : {A B : Type 0} (r : Result A ReadFault) (f : A → Result B ReadFault) (n : ReadFault)
    → (r >>= f) ≡ Err n → (r ≡ Err n) ⊎ ((x : A) × (r ≡ Ok x) × (f x ≡ Err n))
bind_err (Ok x) f n e = inr (x, refl, e)
bind_err (Err d) f n e = inl cc

-- the token that was read is the first one, and in the set
pub token_ok : (q : Terminal → Bool) (s : List Token) (x : Token × List Token) → token_at q s ≡ Ok x → (s ≡ x.0 ∷ x.1) × (q (terminal_of x.0) ≡ true)
token_ok q [] x e = absurd cc
token_ok q (y ∷ s) x e = go (q (terminal_of y)) refl e
  where
    go : (b : Bool) → q (terminal_of y) ≡ b
        → cond {A = Read Token} b (Ok (y, s)) (Err (fault_from_end (length (y ∷ s)) Syntax)) ≡ Ok x
        → ((y ∷ s) ≡ x.0 ∷ x.1) × (q (terminal_of x.0) ≡ true)
    go true is e = let same : (y, s) ≡ x = same_Ok (y, s) x e in rw (← same) (refl, is)
    go false is e = absurd cc

pub token_err : (q : Terminal → Bool) (s : List Token) (n : ReadFault) → token_at q s ≡ Err n → (n ≡ fault_from_end (length s) Syntax) × (starts q s ≡ false)
token_err q [] n e = (cc, refl)
token_err q (x ∷ s) n e = go (q (terminal_of x)) refl e
  where
    go : (b : Bool) → q (terminal_of x) ≡ b
        → cond {A = Read Token} b (Ok (x, s)) (Err (fault_from_end (length (x ∷ s)) Syntax)) ≡ Err n
        → (n ≡ fault_from_end (length (x ∷ s)) Syntax) × (q (terminal_of x) ≡ false)
    go true is e = absurd cc
    go false is e = (cc, is)

pub refuse_ok : {A : Type 0} (d : Option Code) (s : List Token) (r : Read A) (x : A × List Token) → refuse d s r ≡ Ok x → (d ≡ None) × (r ≡ Ok x)
refuse_ok None s r x e = (refl, e)
refuse_ok (Some c) s r x e = absurd cc

pub refuse_err : {A : Type 0} (d : Option Code) (s : List Token) (r : Read A) (n : ReadFault) → refuse d s r ≡ Err n
    → ((c : Code) × (d ≡ Some c) × (n ≡ fault_from_end (length s) c)) ⊎ ((d ≡ None) × (r ≡ Err n))
refuse_err None s r n e = inr (refl, e)
refuse_err (Some c) s r n e = inl (c, refl, cc)

pub check_ok : (good : Token → Bool) (c : Code) (s : List Token) (x y : Token × List Token) → check good c s x ≡ Ok y → (good x.0 ≡ true) × (x ≡ y)
check_ok good c s x y e = elim (chosen (good x.0) (Ok x) (Err (fault_from_end (length s) c)) (Ok y) e) [ inl u ↦ (u.0, same_Ok x y u.1) | inr u ↦ absurd cc ]

pub check_err : (good : Token → Bool) (c : Code) (s : List Token) (x : Token × List Token) (n : ReadFault)
    → check good c s x ≡ Err n → (good x.0 ≡ false) × (n ≡ fault_from_end (length s) c)
check_err good c s x n e = elim (chosen (good x.0) (Ok x) (Err (fault_from_end (length s) c)) (Err n) e) [ inl u ↦ absurd (Ok≢Err x n u.1) | inr u ↦ (u.0, cc) ]

pub judge_ok : {A : Type 0} (l : ℕ) (c : Code) (s : List Token) (r : Read A) (x : A × List Token)
    → judge l c s r ≡ Ok x → (r ≡ Ok x) × (nat_lt l (length s - length x.1) ≡ false)
judge_ok l c s (Ok y) x e =
    elim (chosen (nat_lt l (length s - length y.1)) (Err (fault_from_end (length s - l) c)) (Ok y) (Ok x) e) [
      | inl u ↦ absurd cc
      | inr u ↦ let same = same_Ok y x u.1 in (ap Ok same, ap (λ (z : _ × List Token). nat_lt l (length s - length z.1)) (sym same) ∙ u.0)
    ]
judge_ok l c s (Err d) x e = elim (chosen (nat_lt l (length s - d.left)) (Err (fault_from_end (length s - l) c))
    (Err d) (Ok x) e) [ inl u ↦ absurd cc | inr u ↦ absurd cc ]

-- if reading a limited text fails, the text was too long, its fault comes after the limit, or it has an earlier fault
pub judge_err : {A : Type 0} (l : ℕ) (c : Code) (s : List Token) (r : Read A) (n : ReadFault) → judge l c s r ≡ Err n
    → ((x : A × List Token) × (r ≡ Ok x) × (nat_lt l (length s - length x.1) ≡ true) × (n ≡ fault_from_end (length s - l) c))
    ⊎ (((d : ReadFault) × (r ≡ Err d) × (nat_lt l (length s - d.left) ≡ true)
    × (n ≡ fault_from_end (length s - l) c)) ⊎ ((r ≡ Err n) × (nat_lt l (length s - n.left) ≡ false)))
judge_err l c s (Ok y) n e =
    elim (chosen (nat_lt l (length s - length y.1)) (Err (fault_from_end (length s - l) c)) (Ok y) (Err n) e)
    [ inl u ↦ inl (y, refl, u.0, cc) | inr u ↦ absurd (Ok≢Err y n u.1) ]
judge_err l c s (Err d) n e =
    elim (chosen (nat_lt l (length s - d.left)) (Err (fault_from_end (length s - l) c)) (Err d) (Err n) e) [
      | inl u ↦ inr (inl (d, refl, u.0, cc))
      | inr u ↦ let same : d ≡ n = cc in inr (inr (u.1, ap (λ (z : ReadFault). nat_lt l (length s - z.left)) (sym same) ∙ u.0))
    ]
