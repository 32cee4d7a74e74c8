-- Each longer word at a position begins the same unit, so the longest word is taken.
use Rattle.std.proofs.Common.{◌≡◌, ℕ, ◌≤◌, ◌⊎◌, Bool, true, false, cond, not, eqb, List, [], ◌∷◌, ◌++◌, length, drop}
use Rattle.std.proofs.Common.{Some, refl, sym, ◌∙◌, ap, subst, inl, inr, arith}
use Rattle.std.specs.Prelude.{codes}
use Rattle.std.specs.List.{starts_with}
use Rattle.std.proofs.lemmas.Bool.{and_parts, and_from, cases_lt, cases_Bool, false≢true, eqb-true, not-true, not_from_false}
use Rattle.std.proofs.lemmas.List.{append-nil, drop-append-le}
use Rattle.std.proofs.lemmas.Option.{same_Some}
use Rattle.list_lemmas.proofs.Joins.{longer_front}
use Rattle.jdf_lex.specs.declared.lexical_unit.LexicalUnit.{LexicalUnit}
use Rattle.jdf_lex.specs.declared.lexical_unit.LexicalUnit.TheVariants.{LineComment, BlockComment, TokenOf}
use Rattle.jdf_lex.specs.declared.kind.TokenKind.TheVariants.{Raw, OptionLine}
use Rattle.jdf_lex.specs.Spelling.{is_mark, begins_part, begins_option, plain_unit, first_unit, unit_at, is_spelling}
use Rattle.jdf_lex.specs.Tokens.{IsUnit, LongestIsTaken}
use Rattle.jdf_lex.proofs.CallerLemmas.{spelling_is_some}

abbrev option_word : List ℕ
option_word = codes "%option"

starts_more : (xs more front : List ℕ) → starts_with eqb xs front ≡ true → starts_with eqb (xs ++ more) front ≡ true
starts_more xs more [] e = refl
starts_more [] more (f ∷ fs) e = absurd (false≢true e)
starts_more (x ∷ xs) more (f ∷ fs) e =
    let parts = and_parts (eqb f x) (starts_with eqb xs fs) e in
    and_from (eqb f x) (starts_with eqb (xs ++ more) fs) parts.0 (starts_more xs more fs parts.1)

starts_length : (xs front : List ℕ) → starts_with eqb xs front ≡ true → length front ≤ length xs
starts_length xs [] e = omega arith
starts_length [] (f ∷ fs) e = absurd (false≢true e)
starts_length (x ∷ xs) (f ∷ fs) e = omega (arith, starts_length xs fs (and_parts (eqb f x) (starts_with eqb xs fs) e).1)

part_more : (xs after : List ℕ) → begins_part xs ≡ false → begins_part after ≡ false → begins_part (xs ++ after) ≡ false
part_more [] after e f = f
part_more (x ∷ xs) after e f = e

-- An option line that no letter follows is also one in the longer text.
option_more : (xs after : List ℕ) → begins_option xs ≡ true → begins_part after ≡ false → begins_option (xs ++ after) ≡ true
option_more xs after e f =
    let parts = and_parts (starts_with eqb xs option_word) (not (begins_part (drop 7 xs))) e in
    let size : 7 ≤ length xs = starts_length xs option_word parts.0 in
    let split : drop 7 (xs ++ after) ≡ drop 7 xs ++ after = drop-append-le 7 xs after size in
    let none : begins_part (drop 7 (xs ++ after)) ≡ false = ap begins_part split ∙ part_more (drop 7 xs) after (not-true (begins_part (drop 7 xs)) parts.1) f in
    and_from (starts_with eqb (xs ++ after) option_word) (not (begins_part (drop 7 (xs ++ after))))
    (starts_more xs after option_word parts.0) (not_from_false (begins_part (drop 7 (xs ++ after))) none)

option_bytes : (a b : ℕ) (x : List ℕ) → begins_option (a ∷ b ∷ x) ≡ true → (a ≡ 37) × (b ≡ 111)
option_bytes a b x e =
    let starts = (and_parts (starts_with eqb (a ∷ b ∷ x) option_word) (not (begins_part (drop 7 (a ∷ b ∷ x)))) e).0 in
    let one = and_parts (eqb 37 a) (starts_with eqb (b ∷ x) (codes "option")) starts in
    let two = and_parts (eqb 111 b) (starts_with eqb x (codes "ption")) one.1 in
    (sym (eqb-true 37 a one.0), sym (eqb-true 111 b two.0))

no_long_mark : (x : List ℕ) → is_mark (37 ∷ 111 ∷ x) ≡ true → ⊥
no_long_mark [] e = false≢true e
no_long_mark (c ∷ x) e = false≢true e

-- `%o` begins no unit of two bytes or more but an option line.
no_unit : (a b : ℕ) (x : List ℕ) → a ≡ 37 → b ≡ 111 → is_spelling (plain_unit a (b ∷ x)) (a ∷ b ∷ x) ≡ true → ⊥
no_unit a b x one two spelled =
    let first : is_spelling (plain_unit 37 (b ∷ x)) (37 ∷ b ∷ x) ≡ true = subst (λ z. is_spelling (plain_unit z (b ∷ x)) (z ∷ b ∷ x) ≡ true) one spelled in
    no_long_mark x (subst (λ z. is_spelling (plain_unit 37 (z ∷ x)) (37 ∷ z ∷ x) ≡ true) two first)

-- The unit that begins with two bytes, given whether an option line does.
abbrev unit_of : ℕ → ℕ → List ℕ → Bool → LexicalUnit
unit_of a b x option =
    cond (starts_with eqb (a ∷ b ∷ x) (codes "//")) LineComment
    (cond (starts_with eqb (a ∷ b ∷ x) (codes "/*")) BlockComment
    (cond (starts_with eqb (a ∷ b ∷ x) (codes "%{")) (TokenOf Raw)
    (cond option (TokenOf OptionLine) (plain_unit a (b ∷ x)))))

-- Either the test of an option line makes no difference, or no comment or raw block begins there.
option_decides : (a b : ℕ) (x : List ℕ) (s t : Bool) → (unit_of a b x s ≡ unit_of a b x t)
    ⊎ ((unit_of a b x true ≡ TokenOf OptionLine) × (unit_of a b x false ≡ plain_unit a (b ∷ x)))
option_decides a b x s t =
    decided (starts_with eqb (a ∷ b ∷ x) (codes "//")) (starts_with eqb (a ∷ b ∷ x) (codes "/*"))
    (starts_with eqb (a ∷ b ∷ x) (codes "%{")) (plain_unit a (b ∷ x))
  where
    decided : (c d e : Bool) (p : LexicalUnit)
        → (cond c LineComment (cond d BlockComment (cond e (TokenOf Raw) (cond s (TokenOf OptionLine) p)))
        ≡ cond c LineComment (cond d BlockComment (cond e (TokenOf Raw) (cond t (TokenOf OptionLine) p))))
        ⊎ ((cond c LineComment (cond d BlockComment (cond e (TokenOf Raw) (cond true (TokenOf OptionLine) p))) ≡ TokenOf OptionLine)
        × (cond c LineComment (cond d BlockComment (cond e (TokenOf Raw) (cond false (TokenOf OptionLine) p))) ≡ p))
    decided true d e p = inl refl
    decided false true e p = inl refl
    decided false false true p = inl refl
    decided false false false p = inr (refl, refl)

-- The longer text begins with the same unit.
same_begin : (a b : ℕ) (x after : List ℕ) (other : LexicalUnit) → unit_of a b x (begins_option (a ∷ b ∷ x)) ≡ other
    → is_spelling other (a ∷ b ∷ x) ≡ true → (other ≡ TokenOf OptionLine → begins_part after ≡ false)
    → unit_of a b x (begins_option (a ∷ b ∷ (x ++ after))) ≡ other
same_begin a b x after other is spelled follows =
    let s = begins_option (a ∷ b ∷ x) in
    let t = begins_option (a ∷ b ∷ (x ++ after)) in
    elim (option_decides a b x s t) [
      | inl same ↦ sym same ∙ is
      | inr apart ↦
          elim (cases_Bool s) [
            | inl yes_s ↦
                let option : other ≡ TokenOf OptionLine = sym is ∙ ap (unit_of a b x) yes_s ∙ apart.0 in
                let yes_t : t ≡ true = option_more (a ∷ b ∷ x) after yes_s (follows option) in
                ap (unit_of a b x) (yes_t ∙ sym yes_s) ∙ is
            | inr no_s ↦
                elim (cases_Bool t) [
                  | inl yes_t ↦
                      let bytes = option_bytes a b (x ++ after) yes_t in
                      let plain : other ≡ plain_unit a (b ∷ x) = sym is ∙ ap (unit_of a b x) no_s ∙ apart.1 in
                      absurd (no_unit a b x bytes.0 bytes.1 (subst (λ p. is_spelling p (a ∷ b ∷ x) ≡ true) plain spelled))
                  | inr no_t ↦ ap (unit_of a b x) (no_t ∙ sym no_s) ∙ is
                ]
          ]
    ]

-- Each word of the same unit there is at most as long.
no_longer : (p : LexicalUnit) (word left longer after : List ℕ) → IsUnit p word left → word ++ left ≡ longer ++ after
    → is_spelling p longer ≡ true → length longer ≤ length word
no_longer p word left longer after unit same spelled =
    elim (cases_lt (length word) (length longer)) [
      | inl below ↦
          let found = longer_front word left longer after same (omega arith) in
          let none : found.0 ≡ [] = unit.longest found.0 after found.2 (subst (λ z. is_spelling p z ≡ true) found.1 spelled) in
          let is : longer ≡ word = found.1 ∙ ap (λ z. word ++ z) none ∙ append-nil word in
          omega (arith, ap length is)
      | inr fits ↦ fits
    ]

some_word : (p : LexicalUnit) (word left : List ℕ) → IsUnit p word left → 1 ≤ length word
some_word p [] left unit = absurd (spelling_is_some p unit.spelled)
some_word p (b ∷ bs) left unit = omega arith

pub longest : LongestIsTaken
longest unit other word left [] after is same begins spelled follows = omega arith
longest unit other word left (a ∷ []) after is same begins spelled follows = omega (arith, some_word unit word left is)
longest unit other word left (a ∷ b ∷ x) after is same begins spelled follows =
    let here : unit_of a b x (begins_option (a ∷ b ∷ (x ++ after))) ≡ other = same_begin a b x after other
    (same_Some (first_unit a (b ∷ x)) other begins) spelled follows in
    let whole : Some unit ≡ Some (first_unit a (b ∷ (x ++ after))) = sym is.begins ∙ ap unit_at same in
    let one : unit ≡ other = same_Some unit (first_unit a (b ∷ (x ++ after))) whole ∙ here in
    no_longer unit word left (a ∷ b ∷ x) after is same (subst (λ p. is_spelling p (a ∷ b ∷ x) ≡ true) (sym one) spelled)
