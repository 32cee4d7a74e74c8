-- The lexical units of a text are those of the written forms.
use Rattle.std.proofs.Common.{◌≡◌, ℕ, Bool, true, false, cond, eqb, List, [], ◌∷◌, ◌++◌, length, take, drop, Some, None}
use Rattle.std.proofs.Common.{refl, sym, ◌∙◌, ap, subst, inl, inr, arith}
use Rattle.std.specs.Prelude.{codes, ◌||◌, not}
use Rattle.std.specs.List.{starts_with}
use Rattle.std.proofs.lemmas.Bool.{and_parts, cases_lt, false≢true, eqb-true, not-true, or_parts}
use Rattle.std.proofs.lemmas.List.{append_cancel_left, append-nil, take-append-drop}
use Rattle.std.proofs.lemmas.Option.{same_Some}
use Rattle.list_lemmas.proofs.Joins.{longer_front}
use Rattle.jdf_lex.specs.declared.lexical_unit.LexicalUnit.{LexicalUnit}
use Rattle.jdf_lex.specs.declared.lexical_unit.LexicalUnit.TheVariants.{Blank, LineComment, BlockComment, TokenOf}
use Rattle.jdf_lex.specs.declared.kind.TokenKind.TheVariants.{Name, Number, Quoted, Raw, OptionLine, Mark, Other}
use Rattle.jdf_lex.specs.Spelling.{is_letter, is_digit, is_blank, is_mark, begins_mark, begins_part, begins_option, first_unit, unit_at, is_closed, is_spelling}
use Rattle.jdf_lex.specs.Tokens.{IsUnit}
use Rattle.text_laws.specs.Forms.{HasForm, IsWrittenUnit, UnitsAsWritten}
use Rattle.text_laws.specs.Forms.HasForm.{blank, line_comment, block_comment, name, number, quoted, raw, option_line, mark, other}
use Rattle.jdf_lex.specs.Reading.{front_unit}
use Rattle.jdf_lex.proofs.CallerLemmas.{Found, front_found, front_none, longest_is, one_begins, spelling_is_some}
use Rattle.text_laws.proofs.ClosingMarks.{comment_closed_by, raw_closed_by, closed_is_free, free_is_closed, closed_is_items, items_are_closed}

-- ---- a word of the written form is spelled as the unit

pub form_is_spelling : (u : LexicalUnit) (w : List ℕ) → HasForm u w → is_spelling u w ≡ true
form_is_spelling _ _ (blank b is) = refl
form_is_spelling _ _ (line_comment w no_lf) = no_lf
form_is_spelling _ _ (block_comment w free) = free_is_closed BlockComment 42 47 comment_closed_by w free
form_is_spelling _ _ (name b w first parts) = parts
form_is_spelling _ _ (number b w first parts) = parts
form_is_spelling _ _ (quoted items is) = items_are_closed items is
form_is_spelling _ _ (raw w free) = free_is_closed (TokenOf Raw) 37 125 raw_closed_by w free
form_is_spelling _ _ (option_line w no_part no_lf) = no_lf
form_is_spelling _ _ (mark [] is) = absurd (false≢true is)
form_is_spelling _ _ (mark (b ∷ w) is) = is
form_is_spelling _ _ (other b w is continued) = continued

-- ---- what the first bytes say

-- the unit that the tests choose: that of the first test that holds
abbrev decided_unit : (line block raw_block option quote blank_byte letter digit mark_byte : Bool) → LexicalUnit
decided_unit line block raw_block option quote blank_byte letter digit mark_byte =
    cond line LineComment
    (cond block BlockComment
    (cond raw_block (TokenOf Raw)
    (cond option (TokenOf OptionLine)
    (cond quote (TokenOf Quoted) (cond blank_byte Blank (cond letter (TokenOf Name)
    (cond digit (TokenOf Number) (cond mark_byte (TokenOf Mark) (TokenOf Other)))))))))

-- the tests that hold, and those that fail, for a unit
abbrev Decides : LexicalUnit → (line block raw_block option quote blank_byte letter digit mark_byte : Bool) → Type 0
Decides Blank l b r o q k n d m = k ≡ true
Decides LineComment l b r o q k n d m = l ≡ true
Decides BlockComment l b r o q k n d m = b ≡ true
Decides (TokenOf Name) l b r o q k n d m = n ≡ true
Decides (TokenOf Number) l b r o q k n d m = d ≡ true
Decides (TokenOf Quoted) l b r o q k n d m = q ≡ true
Decides (TokenOf Raw) l b r o q k n d m = r ≡ true
Decides (TokenOf OptionLine) l b r o q k n d m = o ≡ true
Decides (TokenOf Mark) l b r o q k n d m = m ≡ true
Decides (TokenOf Other) l b r o q k n d m = (q ≡ false) × (k ≡ false) × (n ≡ false) × (d ≡ false) × (m ≡ false)

decides : (l b r o q k n d m : Bool) → Decides (decided_unit l b r o q k n d m) l b r o q k n d m
decides true b r o q k n d m = refl
decides false true r o q k n d m = refl
decides false false true o q k n d m = refl
decides false false false true q k n d m = refl
decides false false false false true k n d m = refl
decides false false false false false true n d m = refl
decides false false false false false false true d m = refl
decides false false false false false false false true m = refl
decides false false false false false false false false true = refl
decides false false false false false false false false false = (refl, refl, refl, refl, refl)

abbrev DecidedBy : LexicalUnit → ℕ → List ℕ → Type 0
DecidedBy u b rest =
    Decides u (starts_with eqb (b ∷ rest) (codes "//")) (starts_with eqb (b ∷ rest) (codes "/*"))
    (starts_with eqb (b ∷ rest) (codes "%{")) (begins_option (b ∷ rest)) (eqb b 34) (is_blank b) (is_letter b)
    (is_digit b) (begins_mark (b ∷ rest))

decided_by : (u : LexicalUnit) (b : ℕ) (rest : List ℕ) → unit_at (b ∷ rest) ≡ Some u → DecidedBy u b rest
decided_by u b rest e =
    subst (λ v. DecidedBy v b rest) (same_Some (first_unit b rest) u e)
    (decides (starts_with eqb (b ∷ rest) (codes "//")) (starts_with eqb (b ∷ rest) (codes "/*"))
    (starts_with eqb (b ∷ rest) (codes "%{")) (begins_option (b ∷ rest)) (eqb b 34) (is_blank b) (is_letter b)
    (is_digit b) (begins_mark (b ∷ rest)))

starts_split : (xs front : List ℕ) → starts_with eqb xs front ≡ true → (rest : List ℕ) × (xs ≡ front ++ rest)
starts_split xs [] e = (xs, refl)
starts_split [] (f ∷ fs) e = absurd (false≢true e)
starts_split (x ∷ xs) (f ∷ fs) e =
    let parts = and_parts (eqb f x) (starts_with eqb xs fs) e in
    let later = starts_split xs fs parts.1 in
    let same : f ≡ x = eqb-true f x parts.0 in
    (later.0, (λ i. sym same i ∷ later.1 i))

-- The longest word of a unit begins with the unit's opening.
opening_in_word : (u : LexicalUnit) (front word left rest : List ℕ) → IsUnit u word left → is_spelling u front ≡ true
    → word ++ left ≡ front ++ rest → (more : List ℕ) × (word ≡ front ++ more) × (rest ≡ more ++ left)
opening_in_word u front word left rest unit spelled same =
    elim (cases_lt (length word) (length front)) [
      | inl shorter ↦
          let found = longer_front word left front rest same (omega arith) in
          let none : found.0 ≡ [] = unit.longest found.0 rest found.2 (subst (λ z. is_spelling u z ≡ true) found.1 spelled) in
          let is : front ≡ word = found.1 ∙ ap (λ z. word ++ z) none ∙ append-nil word in
          absurd (omega (arith, ap length is))
      | inr longer ↦ longer_front front rest word left (sym same) longer
    ]

-- ---- a unit has the written form

blank_form : (b : ℕ) (w : List ℕ) → is_blank b ≡ true → is_spelling Blank (b ∷ w) ≡ true → HasForm Blank (b ∷ w)
blank_form b [] is spelled = blank b is
blank_form b (c ∷ w) is spelled = absurd (false≢true spelled)

line_form : (word left : List ℕ) → IsUnit LineComment word left → starts_with eqb (word ++ left) (codes "//") ≡ true → HasForm LineComment word
line_form word left unit starts =
    let split = starts_split (word ++ left) (codes "//") starts in
    let found = opening_in_word LineComment (codes "//") word left split.0 unit refl split.1 in
    let no_lf : is_spelling LineComment (codes "//" ++ found.0) ≡ true = subst (λ z. is_spelling LineComment z ≡ true) found.1 unit.spelled in
    subst (λ z. HasForm LineComment z) (sym found.1) (line_comment found.0 no_lf)

part_before : (xs left : List ℕ) → begins_part (xs ++ left) ≡ false → begins_part xs ≡ false
part_before [] left e = refl
part_before (x ∷ xs) left e = e

option_form : (word left : List ℕ) → IsUnit (TokenOf OptionLine) word left → begins_option (word ++ left) ≡ true → HasForm (TokenOf OptionLine) word
option_form word left unit begins =
    let parts = and_parts (starts_with eqb (word ++ left) (codes "%option")) (not (begins_part (drop 7 (word ++ left)))) begins in
    let split = starts_split (word ++ left) (codes "%option") parts.0 in
    let found = opening_in_word (TokenOf OptionLine) (codes "%option") word left split.0 unit refl split.1 in
    let no_lf : is_spelling (TokenOf OptionLine) (codes "%option" ++ found.0)
    ≡ true = subst (λ z. is_spelling (TokenOf OptionLine) z ≡ true) found.1 unit.spelled in
    let after : drop 7 (word ++ left) ≡ split.0 = ap (drop 7) split.1 in
    let no_part : begins_part (found.0 ++ left) ≡ false =
    ap begins_part (sym (after ∙ found.2)) ∙ not-true (begins_part (drop 7 (word ++ left))) parts.1 in
    subst (λ z. HasForm (TokenOf OptionLine) z) (sym found.1) (option_line found.0 (part_before found.0 left no_part) no_lf)

comment_form : (b : ℕ) (w left : List ℕ) → is_spelling BlockComment (b ∷ w) ≡ true
    → starts_with eqb (b ∷ (w ++ left)) (codes "/*") ≡ true → HasForm BlockComment (b ∷ w)
comment_form b [] left spelled starts = absurd (false≢true spelled)
comment_form b (c ∷ v) left spelled starts =
    let split = starts_split (b ∷ c ∷ (v ++ left)) (codes "/*") starts in
    let first : b ≡ 47 = (let whole = split.1 in cc) in
    let second : c ≡ 42 = (let whole = split.1 in cc) in
    let closed = closed_is_free BlockComment 42 47 comment_closed_by v spelled in
    subst (λ z. HasForm BlockComment z) (λ i. sym first i ∷ sym second i ∷ sym closed.whole i) (block_comment closed.word closed.free)

raw_form : (b : ℕ) (w left : List ℕ) → is_spelling (TokenOf Raw) (b ∷ w) ≡ true
    → starts_with eqb (b ∷ (w ++ left)) (codes "%{") ≡ true → HasForm (TokenOf Raw) (b ∷ w)
raw_form b [] left spelled starts = absurd (false≢true spelled)
raw_form b (c ∷ v) left spelled starts =
    let split = starts_split (b ∷ c ∷ (v ++ left)) (codes "%{") starts in
    let first : b ≡ 37 = (let whole = split.1 in cc) in
    let second : c ≡ 123 = (let whole = split.1 in cc) in
    let closed = closed_is_free (TokenOf Raw) 37 125 raw_closed_by v spelled in
    subst (λ z. HasForm (TokenOf Raw) z) (λ i. sym first i ∷ sym second i ∷ sym closed.whole i) (raw closed.word closed.free)

quoted_form : (b : ℕ) (w : List ℕ) → b ≡ 34 → is_closed (TokenOf Quoted) false w ≡ true → HasForm (TokenOf Quoted) (b ∷ w)
quoted_form b w first spelled =
    let closed = closed_is_items w spelled in
    subst (λ z. HasForm (TokenOf Quoted) z) (λ i. sym first i ∷ sym closed.whole i) (quoted closed.items closed.each)

no_mark : (b : ℕ) (rest : List ℕ) → begins_mark (b ∷ rest) ≡ false → is_mark (b ∷ []) ≡ false
no_mark b [] e = e
no_mark b (c ∷ rest) e = (or_parts (is_mark (b ∷ c ∷ [])) (is_mark (b ∷ [])) e).1

none_of : (q k n d m : Bool) → q ≡ false → k ≡ false → n ≡ false → d ≡ false → m ≡ false → (q || (k || (n || (d || m)))) ≡ false
none_of q k n d m e f g h j = rw (e, f, g, h, j) refl

other_form : (b : ℕ) (w left : List ℕ) → DecidedBy (TokenOf Other) b (w ++ left) → is_spelling (TokenOf Other) (b ∷ w) ≡ true → HasForm (TokenOf Other) (b ∷ w)
other_form b w left tests spelled =
    other b w
    (none_of (eqb b 34) (is_blank b) (is_letter b) (is_digit b) (is_mark (b ∷ [])) tests.0 tests.1 tests.2 tests.3 (no_mark b (w ++ left) tests.4))
    spelled

-- A unit has the written form.
pub unit_has_form : (u : LexicalUnit) (word left : List ℕ) → IsUnit u word left → HasForm u word
unit_has_form u [] left unit = absurd (spelling_is_some u unit.spelled)
unit_has_form Blank (b ∷ w) left unit = blank_form b w (decided_by Blank b (w ++ left) unit.begins) unit.spelled
unit_has_form LineComment (b ∷ w) left unit = line_form (b ∷ w) left unit (decided_by LineComment b (w ++ left) unit.begins)
unit_has_form BlockComment (b ∷ w) left unit = comment_form b w left unit.spelled (decided_by BlockComment b (w ++ left) unit.begins)
unit_has_form (TokenOf Name) (b ∷ w) left unit = name b w (decided_by (TokenOf Name) b (w ++ left) unit.begins) unit.spelled
unit_has_form (TokenOf Number) (b ∷ w) left unit = number b w (decided_by (TokenOf Number) b (w ++ left) unit.begins) unit.spelled
unit_has_form (TokenOf Quoted) (b ∷ w) left unit = quoted_form b w (eqb-true b 34 (decided_by (TokenOf Quoted) b (w ++ left) unit.begins)) unit.spelled
unit_has_form (TokenOf Raw) (b ∷ w) left unit = raw_form b w left unit.spelled (decided_by (TokenOf Raw) b (w ++ left) unit.begins)
unit_has_form (TokenOf OptionLine) (b ∷ w) left unit = option_form (b ∷ w) left unit (decided_by (TokenOf OptionLine) b (w ++ left) unit.begins)
unit_has_form (TokenOf Mark) (b ∷ w) left unit = mark (b ∷ w) unit.spelled
unit_has_form (TokenOf Other) (b ∷ w) left unit = other_form b w left (decided_by (TokenOf Other) b (w ++ left) unit.begins) unit.spelled

-- ---- both ways

unit_is_written : (u : LexicalUnit) (word left : List ℕ) → IsUnit u word left → IsWrittenUnit u word left
unit_is_written u word left unit =
    record {
      begins = unit.begins;
      form = unit_has_form u word left unit;
      longest = λ more after e form. unit.longest more after e (form_is_spelling u (word ++ more) form);
    }

-- A written unit and the unit at the same position have the same word.
same_word : (u : LexicalUnit) (word left v y : List ℕ) → IsWrittenUnit u word left → IsUnit u v y → word ++ left ≡ v ++ y → word ≡ v
same_word u word left v y written unit same =
    let spelled : is_spelling u word ≡ true = form_is_spelling u word written.form in
    elim (cases_lt (length v) (length word)) [
      | inl shorter ↦ sym (longest_is u v y word left unit spelled (sym same) (omega arith))
      | inr longer ↦
          let found = longer_front word left v y same longer in
          let form : HasForm u (word ++ found.0) = subst (λ z. HasForm u z) found.1 (unit_has_form u v y unit) in
          let none : found.0 ≡ [] = written.longest found.0 y found.2 form in
          sym (found.1 ∙ ap (λ z. word ++ z) none ∙ append-nil word)
    ]

unit_of_word : (u : LexicalUnit) (word left v y : List ℕ) → IsUnit u v y → word ++ left ≡ v ++ y → word ≡ v → IsUnit u word left
unit_of_word u word left v y unit same words =
    let lefts : left ≡ y = append_cancel_left word left y (same ∙ ap (λ z. z ++ y) (sym words)) in
    subst (λ z. IsUnit u word z) (sym lefts) (subst (λ z. IsUnit u z y) (sym words) unit)

written_from : (u : LexicalUnit) (b : ℕ) (w left : List ℕ) (o : Found) → IsWrittenUnit u (b ∷ w) left → front_unit (b ∷ (w ++ left)) ≡ o → IsUnit u (b ∷ w) left
written_from u b w left None written found =
    let first : first_unit b (w ++ left) ≡ u = same_Some (first_unit b (w ++ left)) u written.begins in
    let spelled : is_spelling (first_unit b (w ++ left)) (b ∷ w) ≡ true = subst (λ z. is_spelling z (b ∷ w) ≡ true)
    (sym first) (form_is_spelling u (b ∷ w) written.form) in
    absurd (front_none b (w ++ left) found (b ∷ w) left refl spelled)
written_from u b w left (Some (q, n)) written found =
    let text = b ∷ (w ++ left) in
    let whole : text ≡ take n text ++ drop n text = sym (take-append-drop n text) in
    let front = front_found text q n found in
    let one : q ≡ u = one_begins q u text front.0 written.begins in
    let here : IsUnit q (take n text) (drop n text) = record
    { begins = ap unit_at (sym whole) ∙ front.0; spelled = front.1.spelled; longest = front.1.longest } in
    let unit : IsUnit u (take n text) (drop n text) = subst (λ z. IsUnit z (take n text) (drop n text)) one here in
    unit_of_word u (b ∷ w) left (take n text) (drop n text) unit whole (same_word u (b ∷ w) left (take n text) (drop n text) written unit whole)

written_is_unit : (u : LexicalUnit) (word left : List ℕ) → IsWrittenUnit u word left → IsUnit u word left
written_is_unit u [] left written = absurd (spelling_is_some u (form_is_spelling u [] written.form))
written_is_unit u (b ∷ w) left written = written_from u b w left (front_unit (b ∷ (w ++ left))) written refl

pub units_as_written : UnitsAsWritten
units_as_written unit word left = (unit_is_written unit word left, written_is_unit unit word left)
