-- Faults are ordered: the line, the column or the code decides, whichever differs first.
use Rattle.std.proofs.Common.{◌≡◌, ℕ, ◌<◌, Bool, true, false, arith, refl, sym, ◌∙◌, ap, inl, inr}
use Rattle.std.specs.Prelude.{nat_eq, nat_lt, ◌&&◌, ◌||◌}
use Rattle.std.proofs.lemmas.Bool.{cases_order, lt-ltb, le-ltb, eq-eqb, ne_eqb, ltb-true, ltb-false}
use Rattle.type_rules.specs.TreesAndFaults.{JdfFault}
use Rattle.type_rules.specs.Faults.{code_number, is_before}

-- a number is less than another, or it is the same and `r` decides
abbrev pub lex : ℕ → ℕ → Bool → Bool
lex a x r = nat_lt a x || (nat_eq a x && r)

pub lex-less : (a x : ℕ) (r : Bool) → a < x → lex a x r ≡ true
lex-less a x r lt = ap (λ b. b || (nat_eq a x && r)) (lt-ltb a x lt)

pub lex-same : (a x : ℕ) (r : Bool) → a ≡ x → lex a x r ≡ r
lex-same a x r e = ap (λ b. b || (nat_eq a x && r)) (le-ltb a x (omega (arith, e))) ∙ ap (λ b. b && r) (eq-eqb a x e)

lex-more : (a x : ℕ) (r : Bool) → x < a → lex a x r ≡ false
lex-more a x r gt = ap (λ b. b || (nat_eq a x && r)) (le-ltb a x (omega (arith, gt))) ∙ ap (λ b. b && r) (ne_eqb a x (λ e. omega (arith, e, gt)))

lex-trans : (a x u : ℕ) (r s t : Bool) → (r ≡ true → s ≡ true → t ≡ true) → lex a x r ≡ true → lex x u s ≡ true → lex a u t ≡ true
lex-trans a x u r s t rest h k =
    elim (cases_order a x) [
      | inl e ↦ elim (cases_order x u) [
        | inl f ↦ lex-same a u t (e ∙ f) ∙ rest (sym (lex-same a x r e) ∙ h) (sym (lex-same x u s f) ∙ k)
        | inr (inl f) ↦ lex-less a u t (omega (arith, e, f))
        | inr (inr f) ↦ let no : lex x u s ≡ false = lex-more x u s f in absurd cc
      ]
      | inr (inl e) ↦ elim (cases_order x u) [
        | inl f ↦ lex-less a u t (omega (arith, e, f))
        | inr (inl f) ↦ lex-less a u t (omega (arith, e, f))
        | inr (inr f) ↦ let no : lex x u s ≡ false = lex-more x u s f in absurd cc
      ]
      | inr (inr e) ↦ let no : lex a x r ≡ false = lex-more a x r e in absurd cc
    ]

lex-cotrans : (a x u : ℕ) (r s t : Bool) → (r ≡ false → s ≡ false → t ≡ false) → lex a x r ≡ false → lex x u s ≡ false → lex a u t ≡ false
lex-cotrans a x u r s t rest h k =
    elim (cases_order a x) [
      | inl e ↦ elim (cases_order x u) [
        | inl f ↦ lex-same a u t (e ∙ f) ∙ rest (sym (lex-same a x r e) ∙ h) (sym (lex-same x u s f) ∙ k)
        | inr (inl f) ↦ let no : lex x u s ≡ true = lex-less x u s f in absurd cc
        | inr (inr f) ↦ lex-more a u t (omega (arith, e, f))
      ]
      | inr (inl e) ↦ let no : lex a x r ≡ true = lex-less a x r e in absurd cc
      | inr (inr e) ↦ elim (cases_order x u) [
        | inl f ↦ lex-more a u t (omega (arith, e, f))
        | inr (inl f) ↦ let no : lex x u s ≡ true = lex-less x u s f in absurd cc
        | inr (inr f) ↦ lex-more a u t (omega (arith, e, f))
      ]
    ]

pub before-trans : (f g h : JdfFault) → is_before f g ≡ true → is_before g h ≡ true → is_before f h ≡ true
before-trans f g h =
    lex-trans f.spot.line g.spot.line h.spot.line _ _ _
    (lex-trans f.spot.column g.spot.column h.spot.column _ _ _
    (λ p q. lex-less-true (code_number f.code) (code_number g.code) (code_number h.code) p q))
  where
    lex-less-true : (a b c : ℕ) → nat_lt a b ≡ true → nat_lt b c ≡ true → nat_lt a c ≡ true
    lex-less-true a b c p q = lt-ltb a c (omega (arith, ltb-true a b p, ltb-true b c q))

pub before-cotrans : (f g h : JdfFault) → is_before f g ≡ false → is_before g h ≡ false → is_before f h ≡ false
before-cotrans f g h =
    lex-cotrans f.spot.line g.spot.line h.spot.line _ _ _
    (lex-cotrans f.spot.column g.spot.column h.spot.column _ _ _
    (λ p q. less-false (code_number f.code) (code_number g.code) (code_number h.code) p q))
  where
    less-false : (a b c : ℕ) → nat_lt a b ≡ false → nat_lt b c ≡ false → nat_lt a c ≡ false
    less-false a b c p q = le-ltb a c (omega (arith, ltb-false a b p, ltb-false b c q))

-- no fault comes before itself
pub before-irrefl : (f : JdfFault) → is_before f f ≡ false
before-irrefl f =
    lex-same f.spot.line f.spot.line _ refl
    ∙ (lex-same f.spot.column f.spot.column _ refl
    ∙ le-ltb (code_number f.code) (code_number f.code) (omega arith))
