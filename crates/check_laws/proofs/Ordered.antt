-- If neither of two faults comes before the other, they are equal.
use Rattle.std.proofs.Common.{◌≡◌, ℕ, Bool, true, false, List, [], ◌∷◌, arith, refl, sym, ◌∙◌, ap, inl, inr}
use Rattle.std.specs.Prelude.{Some, nat_lt, slice_get}
use Rattle.std.proofs.lemmas.Bool.{cases_order, ltb-false}
use Rattle.type_rules.specs.TreesAndFaults.{JdfCode, JdfFault, TooLong, NotUtf8, Unclosed, TooManyTokens, Syntax}
use Rattle.type_rules.specs.TreesAndFaults.{Truncated, BadNumber, ExprTooLong, TooManyClasses, TooManyParams}
use Rattle.type_rules.specs.TreesAndFaults.{TooManyLocals, TooManyFlows, TooManyDeps, TooDeep, TooManyVars, NameTwice}
use Rattle.type_rules.specs.TreesAndFaults.{LocalTwice, ParamUndefined, RangedLocal, UnknownName, WrongKind, NoSuchFlow}
use Rattle.type_rules.specs.TreesAndFaults.{Arity, CtlMixed, WriteInput, NewSent, RangeInDataInput, RangeInPlace}
use Rattle.type_rules.specs.TreesAndFaults.{Datatype, MixedTypes, TypeDiffers, ReadAssigned, NotAssignable}
use Rattle.type_rules.specs.Faults.{code_number, is_before}
use Rattle.type_rules.proofs.CallerLemmas.{lex, lex-less, lex-same}

-- all codes, each at the index that is its number
abbrev codes_by_number : List JdfCode
codes_by_number = TooLong ∷ NotUtf8 ∷ Unclosed ∷ TooManyTokens ∷ Syntax ∷ Truncated ∷ BadNumber ∷ ExprTooLong ∷
    TooManyClasses ∷ TooManyParams ∷ TooManyLocals ∷ TooManyFlows ∷ TooManyDeps ∷ TooDeep ∷ TooManyVars ∷ NameTwice ∷
    LocalTwice ∷ ParamUndefined ∷ RangedLocal ∷ UnknownName ∷ WrongKind ∷ NoSuchFlow ∷ Arity ∷ CtlMixed ∷ WriteInput ∷
    NewSent ∷ RangeInDataInput ∷ RangeInPlace ∷ Datatype ∷ MixedTypes ∷ TypeDiffers ∷ ReadAssigned ∷ NotAssignable ∷ []

at_code_number : (c : JdfCode) → slice_get codes_by_number (code_number c) ≡ Some c
at_code_number TooLong = refl
at_code_number NotUtf8 = refl
at_code_number Unclosed = refl
at_code_number TooManyTokens = refl
at_code_number Syntax = refl
at_code_number Truncated = refl
at_code_number BadNumber = refl
at_code_number ExprTooLong = refl
at_code_number TooManyClasses = refl
at_code_number TooManyParams = refl
at_code_number TooManyLocals = refl
at_code_number TooManyFlows = refl
at_code_number TooManyDeps = refl
at_code_number TooDeep = refl
at_code_number TooManyVars = refl
at_code_number NameTwice = refl
at_code_number LocalTwice = refl
at_code_number ParamUndefined = refl
at_code_number RangedLocal = refl
at_code_number UnknownName = refl
at_code_number WrongKind = refl
at_code_number NoSuchFlow = refl
at_code_number Arity = refl
at_code_number CtlMixed = refl
at_code_number WriteInput = refl
at_code_number NewSent = refl
at_code_number RangeInDataInput = refl
at_code_number RangeInPlace = refl
at_code_number Datatype = refl
at_code_number MixedTypes = refl
at_code_number TypeDiffers = refl
at_code_number ReadAssigned = refl
at_code_number NotAssignable = refl

one_code : (c d : JdfCode) → code_number c ≡ code_number d → c ≡ d
one_code c d e = let same : Some c ≡ Some d = sym (at_code_number c) ∙ (ap (slice_get codes_by_number) e ∙ at_code_number d) in cc

lex-neither : (a x : ℕ) (r s : Bool) → lex a x r ≡ false → lex x a s ≡ false → (a ≡ x) × (r ≡ false) × (s ≡ false)
lex-neither a x r s h k =
    elim (cases_order a x) [
      | inl e ↦ (e, sym (lex-same a x r e) ∙ h, sym (lex-same x a s (sym e)) ∙ k)
      | inr (inl e) ↦ let no : lex a x r ≡ true = lex-less a x r e in absurd cc
      | inr (inr e) ↦ let no : lex x a s ≡ true = lex-less x a s e in absurd cc
    ]

neither_less : (a b : ℕ) → nat_lt a b ≡ false → nat_lt b a ≡ false → a ≡ b
neither_less a b h k = omega (arith, ltb-false a b h, ltb-false b a k)

abbrev fault_of : ℕ → ℕ → JdfCode → JdfFault
fault_of line column code = record { spot = record { line = line; column = column }; code = code }

pub neither_is_before : (f g : JdfFault) → is_before f g ≡ false → is_before g f ≡ false → f ≡ g
neither_is_before f g h k =
    let lines = lex-neither f.spot.line g.spot.line _ _ h k in
    let columns = lex-neither f.spot.column g.spot.column _ _ lines.1 lines.2 in
    let codes = one_code f.code g.code (neither_less (code_number f.code) (code_number g.code) columns.1 columns.2) in
    ap (λ n. fault_of n f.spot.column f.code) lines.0
    ∙ (ap (λ n. fault_of g.spot.line n f.code) columns.0
    ∙ ap (λ c. fault_of g.spot.line g.spot.column c) codes)
