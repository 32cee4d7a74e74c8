-- Each token that is a name, a number or a mark is spelled as one.
use Rattle.std.proofs.Common.{◌≡◌, ℕ, Bool, true, false, cond, List, [], ◌∷◌, ◌++◌, refl, sym, ap, ◌∙◌, subst}
use Rattle.std.specs.Prelude.{Some, nat_eq, ◌==◌, codes}
use Rattle.std.specs.List.{starts_with}
use Rattle.std.proofs.lemmas.Option.{same_Some}
use Rattle.jdf_lex.specs.declared.lexical_unit.LexicalUnit.{LexicalUnit}
use Rattle.jdf_lex.specs.declared.lexical_unit.LexicalUnit.TheVariants.{Blank, LineComment, BlockComment, TokenOf}
use Rattle.grammar_core.specs.declared.token.Token.{Token}
use Rattle.jdf_lex.specs.declared.kind.TokenKind.{TokenKind}
use Rattle.jdf_lex.specs.declared.kind.TokenKind.TheVariants.{Name, Number, Quoted, Raw, OptionLine, Mark, Other}
use Rattle.jdf_lex.specs.Terminals.{number_of, terminal_by}
use Rattle.jdf_lex.specs.Spelling.{is_letter, is_digit, is_blank, begins_mark, begins_option, plain_unit, first_unit}
use Rattle.jdf_lex.specs.Tokens.{IsUnit, IsToken, IsLexedTo}
use Rattle.jdf_lex.specs.Tokens.IsLexedTo.{nothing_more, dropped_then, token_then}
use Rattle.print_laws.proofs.Forms.{Every}
use Rattle.print_laws.proofs.Known.{IsKnownAs, IsKnown}

-- If the unit is a token of another kind, no comment, raw block or option line begins there.
peel : (s t u v : Bool) (p : LexicalUnit) (k : TokenKind) → (Raw ≡ k → ⊥) → (OptionLine ≡ k → ⊥)
    → cond s LineComment (cond t BlockComment (cond u (TokenOf Raw) (cond v (TokenOf OptionLine) p))) ≡ TokenOf k
    → p ≡ TokenOf k
peel true t u v p k raw option e = absurd (cc)
peel false true u v p k raw option e = absurd (cc)
peel false false true v p k raw option e = absurd (raw (cc))
peel false false false true p k raw option e = absurd (option (cc))
peel false false false false p k raw option e = e

plain_is : (b : ℕ) (rest : List ℕ) (k : TokenKind) → (Raw ≡ k → ⊥) → (OptionLine ≡ k → ⊥)
    → Some (first_unit b rest) ≡ Some (TokenOf k) → plain_unit b rest ≡ TokenOf k
plain_is b rest k raw option e =
    peel (starts_with nat_eq (b ∷ rest) (codes "//")) (starts_with nat_eq (b ∷ rest) (codes "/*"))
    (starts_with nat_eq (b ∷ rest) (codes "%{")) (begins_option (b ∷ rest)) (plain_unit b rest) k raw option
    (same_Some (first_unit b rest) (TokenOf k) e)

abbrev Plain : Bool → Bool → Bool → Bool → Bool → LexicalUnit
Plain a c l d m = cond a (TokenOf Quoted) (cond c Blank (cond l (TokenOf Name) (cond d (TokenOf Number) (cond m (TokenOf Mark) (TokenOf Other)))))

name_by : (a c l d m : Bool) → Plain a c l d m ≡ TokenOf Name → l ≡ true
name_by true c l d m e = absurd (cc)
name_by false true l d m e = absurd (cc)
name_by false false true d m e = refl
name_by false false false true m e = absurd (cc)
name_by false false false false true e = absurd (cc)
name_by false false false false false e = absurd (cc)

number_by : (a c l d m : Bool) → Plain a c l d m ≡ TokenOf Number → (l ≡ false) × (d ≡ true)
number_by true c l d m e = absurd (cc)
number_by false true l d m e = absurd (cc)
number_by false false true d m e = absurd (cc)
number_by false false false true m e = (refl, refl)
number_by false false false false true e = absurd (cc)
number_by false false false false false e = absurd (cc)

mark_by : (a c l d m : Bool) → Plain a c l d m ≡ TokenOf Mark → (l ≡ false) × (d ≡ false)
mark_by true c l d m e = absurd (cc)
mark_by false true l d m e = absurd (cc)
mark_by false false true d m e = absurd (cc)
mark_by false false false true m e = absurd (cc)
mark_by false false false false true e = (refl, refl)
mark_by false false false false false e = absurd (cc)

unit_known : (k : TokenKind) (w left : List ℕ) → IsUnit (TokenOf k) w left → IsKnownAs k w
unit_known Name [] left h = let e = h.spelled in absurd (cc)
unit_known Name (b ∷ bs) left h =
    let rest = bs ++ left in
    let l = name_by (b == 34) (is_blank b) (is_letter b) (is_digit b) (begins_mark (b ∷ rest)) (plain_is b rest Name (λ e. cc) (λ e. cc) h.begins) in
    (rw l refl, rw l h.spelled)
unit_known Number [] left h = let e = h.spelled in absurd (cc)
unit_known Number (b ∷ bs) left h =
    let rest = bs ++ left in
    let l = number_by (b == 34) (is_blank b) (is_letter b) (is_digit b) (begins_mark (b ∷ rest)) (plain_is b rest Number (λ e. cc) (λ e. cc) h.begins) in
    (rw (l.0, l.1) refl, rw (l.0, l.1) h.spelled)
unit_known Mark [] left h = let e = h.spelled in absurd (cc)
unit_known Mark (b ∷ bs) left h =
    let rest = bs ++ left in
    let l = mark_by (b == 34) (is_blank b) (is_letter b) (is_digit b) (begins_mark (b ∷ rest)) (plain_is b rest Mark (λ e. cc) (λ e. cc) h.begins) in
    (rw (l.0, l.1) refl, rw (l.0, l.1) h.spelled)
unit_known Quoted w left h = tt
unit_known Raw w left h = tt
unit_known OptionLine w left h = tt
unit_known Other w left h = tt

token_known : (before word left : List ℕ) (x : Token) → IsToken before word left x → IsKnown x
token_known before word left x h =
    let K : List ℕ → Type 0 = λ w. IsKnownAs h.kind w in
    record {
      kind = h.kind;
      terminal = h.terminal ∙ ap (λ (w : List ℕ). number_of (terminal_by h.kind w)) (sym h.text);
      known = subst K (sym h.text) (unit_known h.kind word left h.unit);
    }

pub tokens_known : (front left before rest : List ℕ) (ts : List Token) → IsLexedTo front left before rest ts → Every IsKnown ts
tokens_known front left before rest ts nothing_more = tt
tokens_known front left before rest ts (dropped_then _ _ _ unit word later dropped whole is on) = tokens_known front left (before ++ word) later ts on
tokens_known front left before rest ts (token_then _ _ more token word later whole is on) =
    (token_known before word later token is, tokens_known front left (before ++ word) later more on)
