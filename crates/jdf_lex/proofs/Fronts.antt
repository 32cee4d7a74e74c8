-- The unit found at a position is the longest one there; if none is found, the text does not end the unit that begins
-- there.
use Rattle.std.proofs.Common.{◌≡◌, ℕ, suc, ◌+◌, ◌<◌, ◌≤◌, true, false, cond, eqb, List, [], ◌∷◌, ◌++◌, length, take, drop, Option, Some, None, refl}
use Rattle.std.proofs.Common.{sym, ◌∙◌, ap, subst, inl, inr, arith}
use Rattle.std.specs.List.{list_all, prefix_len}
use Rattle.std.specs.Prelude.{codes}
use Rattle.std.specs.List.{starts_with}
use Rattle.std.proofs.lemmas.Bool.{cases_Bool, both_ways, false≢true, or_cases, cond-true, cond-false}
use Rattle.std.proofs.lemmas.List.Sums.{prefix_len-le-length}
use Rattle.std.proofs.lemmas.Option.{none-some}
use Rattle.std.specs.Option.{option_map}
use Rattle.jdf_lex.specs.declared.lexical_unit.LexicalUnit.{LexicalUnit}
use Rattle.jdf_lex.specs.declared.lexical_unit.LexicalUnit.TheVariants.{Blank, LineComment, BlockComment, TokenOf}
use Rattle.jdf_lex.specs.declared.kind.TokenKind.TheVariants.{Name, Number, Quoted, Raw, OptionLine, Mark, Other}
use Rattle.jdf_lex.specs.Spelling.{is_blank, is_letter, is_digit, is_mark, begins_mark, begins_option, plain_unit, first_unit, unit_at, continues}
use Rattle.jdf_lex.specs.Spelling.{is_closed, is_spelling}
use Rattle.jdf_lex.specs.Reading.{mark_len, closed_len, unit_len, front_unit}
use Rattle.jdf_lex.proofs.Closing.{one_more, add_length_found, add_length_none, closed_found, closed_once, closed_none}
use Rattle.jdf_lex.proofs.Runs.{prefix_passes, run_longest}
use Rattle.list_lemmas.proofs.Truth.{chosen}

-- The longest word of the unit at the front has this length.
pub record IsFront (unit : LexicalUnit) (rest : List ℕ) (n : ℕ) : Type 0 where
  pub nonempty : 0 < n
  pub within : n ≤ length rest
  pub spelled : is_spelling unit (take n rest) ≡ true
  pub longest : (more after : List ℕ) → drop n rest ≡ more ++ after → is_spelling unit (take n rest ++ more) ≡ true → more ≡ []

-- ---- units without a closing mark

run_front : (p : LexicalUnit) → ((b : ℕ) (w : List ℕ) → is_spelling p (b ∷ w) ≡ list_all (continues p) w)
    → (b : ℕ) (bs : List ℕ) → IsFront p (b ∷ bs) (1 + prefix_len (continues p) bs)
run_front p spells b bs =
    let n = prefix_len (continues p) bs in
    let front : IsFront p (b ∷ bs) (suc n) = record {
      nonempty = omega arith;
      within = omega (arith, prefix_len-le-length (continues p) bs);
      spelled = spells b (take n bs) ∙ prefix_passes (continues p) bs;
      longest = λ more after e f. run_longest (continues p) bs more after e (sym (spells b (take n bs ++ more)) ∙ f);
    } in
    subst (λ m. IsFront p (b ∷ bs) m) (one_more n) front

-- ---- units with a closing mark

quoted_front : (b : ℕ) (bs : List ℕ) (m : ℕ) → closed_len (TokenOf Quoted) false bs ≡ Some m → IsFront (TokenOf Quoted) (b ∷ bs) (1 + m)
quoted_front b bs m e =
    let found = closed_found (TokenOf Quoted) false bs m e in
    let front : IsFront (TokenOf Quoted) (b ∷ bs) (suc m) = record {
      nonempty = omega arith;
      within = omega (arith, found.within);
      spelled = found.closed;
      longest = λ more after _ f. closed_once (TokenOf Quoted) false (take m bs) more found.closed f;
    } in
    subst (λ n. IsFront (TokenOf Quoted) (b ∷ bs) n) (one_more m) front

opened_front : (p : LexicalUnit) → ((b : ℕ) (w : List ℕ) → is_spelling p (b ∷ w) ≡ is_closed p false (drop 1 w)) → (b : ℕ) (bs : List ℕ) (m : ℕ)
    → closed_len p false (drop 1 bs) ≡ Some m → IsFront p (b ∷ bs) (2 + m)
opened_front p spells b [] m e = absurd (let never : ◌≡◌ {A = Option ℕ} None (Some m) = e in cc)
opened_front p spells b (c ∷ cs) m e =
    let found = closed_found p false cs m e in
    let size : suc (suc m) ≡ 2 + m = omega arith in
    let front : IsFront p (b ∷ c ∷ cs) (suc (suc m)) = record {
      nonempty = omega arith;
      within = omega (arith, found.within);
      spelled = spells b (c ∷ take m cs) ∙ found.closed;
      longest = λ more after _ f. closed_once p false (take m cs) more found.closed (sym (spells b (c ∷ take m cs ++ more)) ∙ f);
    } in
    subst (λ n. IsFront p (b ∷ c ∷ cs) n) size front

opened_none : (p : LexicalUnit) → ((b : ℕ) (w : List ℕ) → is_spelling p (b ∷ w) ≡ is_closed p false (drop 1 w))
    → (bs : List ℕ) → closed_len p false (drop 1 bs) ≡ None
    → (b : ℕ) (w after : List ℕ) → bs ≡ w ++ after → is_spelling p (b ∷ w) ≡ true → ⊥
opened_none p spells bs e b [] after is spelled = false≢true (sym (spells b []) ∙ spelled)
opened_none p spells [] e b (d ∷ w) after is spelled = cc
opened_none p spells (c ∷ cs) e b (d ∷ w) after is spelled =
    let tails : cs ≡ w ++ after = cc in
    closed_none p false cs e w after tails (sym (spells b (d ∷ w)) ∙ spelled)

-- ---- marks

long_longest : (a b : ℕ) (rest more after : List ℕ) → rest ≡ more ++ after → is_mark (a ∷ b ∷ more) ≡ true → more ≡ []
long_longest a b rest [] after e spelled = refl
long_longest a b rest (m ∷ more) after e spelled = absurd (false≢true spelled)

short_longest : (a b : ℕ) (rest : List ℕ) → is_mark (a ∷ b ∷ []) ≡ false → (more after : List ℕ)
    → b ∷ rest ≡ more ++ after → is_mark (a ∷ more) ≡ true → more ≡ []
short_longest a b rest short [] after e spelled = refl
short_longest a b rest short (m ∷ []) after e spelled =
    let same : m ≡ b = cc in
    absurd (both_ways (is_mark (a ∷ b ∷ [])) short (sym (ap (λ z. is_mark (a ∷ z ∷ [])) same) ∙ spelled))
short_longest a b rest short (m ∷ n ∷ more) after e spelled = absurd (false≢true spelled)

lone_longest : (a : ℕ) (more after : List ℕ) → [] ≡ more ++ after → is_mark (a ∷ more) ≡ true → more ≡ []
lone_longest a [] after e spelled = refl
lone_longest a (m ∷ more) after e spelled = absurd (cc)

abbrev mark_front : List ℕ → ℕ → Type 0
mark_front rest n = IsFront (TokenOf Mark) rest n

long_front : (a b : ℕ) (rest : List ℕ) → is_mark (a ∷ b ∷ []) ≡ true → mark_front (a ∷ b ∷ rest) (mark_len (a ∷ b ∷ rest))
long_front a b rest long =
    let front : mark_front (a ∷ b ∷ rest) 2 = record { nonempty = omega arith; within = omega arith; spelled = long; longest = long_longest a b rest } in
    subst (λ n. mark_front (a ∷ b ∷ rest) n) (sym (cond-true (is_mark (a ∷ b ∷ [])) 2 (cond (is_mark (a ∷ [])) 1 0) long)) front

short_front : (a b : ℕ) (rest : List ℕ) → is_mark (a ∷ b ∷ []) ≡ false → is_mark (a ∷ []) ≡ true → mark_front (a ∷ b ∷ rest) (mark_len (a ∷ b ∷ rest))
short_front a b rest none short =
    let front : mark_front (a ∷ b ∷ rest) 1 = record { nonempty = omega arith; within = omega arith; spelled = short; longest = short_longest a b rest none } in
    let is : mark_len (a ∷ b ∷ rest) ≡ 1 = cond-false (is_mark (a ∷ b ∷ [])) 2 (cond (is_mark (a ∷ [])) 1 0) none ∙ cond-true (is_mark (a ∷ [])) 1 0 short in
    subst (λ n. mark_front (a ∷ b ∷ rest) n) (sym is) front

mark_is_front : (rest : List ℕ) → begins_mark rest ≡ true → mark_front rest (mark_len rest)
mark_is_front [] e = absurd (false≢true e)
mark_is_front (a ∷ []) e =
    let front : mark_front (a ∷ []) 1 = record { nonempty = omega arith; within = omega arith; spelled = e; longest = lone_longest a } in
    subst (λ n. mark_front (a ∷ []) n) (sym (cond-true (is_mark (a ∷ [])) 1 0 e)) front
mark_is_front (a ∷ b ∷ rest) e =
    elim (cases_Bool (is_mark (a ∷ b ∷ []))) [
      | inl long ↦ long_front a b rest long
      | inr none ↦
          elim (or_cases (is_mark (a ∷ b ∷ [])) (is_mark (a ∷ [])) e) [
            | inl long ↦ long_front a b rest long
            | inr short ↦ short_front a b rest none short
          ]
    ]

-- ---- if the unit is a mark, a mark begins there

plain_mark : (b : ℕ) (bs : List ℕ) → plain_unit b bs ≡ TokenOf Mark → begins_mark (b ∷ bs) ≡ true
plain_mark b bs e =
    let mark = cond (begins_mark (b ∷ bs)) (TokenOf Mark) (TokenOf Other) in
    let digit = cond (is_digit b) (TokenOf Number) mark in
    let letter = cond (is_letter b) (TokenOf Name) digit in
    let blank = cond (is_blank b) Blank letter in
    elim (chosen (eqb b 34) (TokenOf Quoted) blank (TokenOf Mark) e) [
      | inl otherwise ↦ absurd (let never : TokenOf Quoted ≡ TokenOf Mark = otherwise.1 in cc)
      | inr e1 ↦
          elim (chosen (is_blank b) Blank letter (TokenOf Mark) e1.1) [
            | inl otherwise ↦ absurd (let never : Blank ≡ TokenOf Mark = otherwise.1 in cc)
            | inr e2 ↦
                elim (chosen (is_letter b) (TokenOf Name) digit (TokenOf Mark) e2.1) [
                  | inl otherwise ↦ absurd (let never : TokenOf Name ≡ TokenOf Mark = otherwise.1 in cc)
                  | inr e3 ↦
                      elim (chosen (is_digit b) (TokenOf Number) mark (TokenOf Mark) e3.1) [
                        | inl otherwise ↦ absurd (let never : TokenOf Number ≡ TokenOf Mark = otherwise.1 in cc)
                        | inr e4 ↦
                            elim (chosen (begins_mark (b ∷ bs)) (TokenOf Mark) (TokenOf Other) (TokenOf Mark) e4.1) [
                              | inl marks ↦ marks.0
                              | inr otherwise ↦ absurd (let never : TokenOf Other ≡ TokenOf Mark = otherwise.1 in cc)
                            ]
                      ]
                ]
          ]
    ]

first_mark : (b : ℕ) (bs : List ℕ) → first_unit b bs ≡ TokenOf Mark → begins_mark (b ∷ bs) ≡ true
first_mark b bs e =
    let option = cond (begins_option (b ∷ bs)) (TokenOf OptionLine) (plain_unit b bs) in
    let raw = cond (starts_with eqb (b ∷ bs) (codes "%{")) (TokenOf Raw) option in
    let block = cond (starts_with eqb (b ∷ bs) (codes "/*")) BlockComment raw in
    elim (chosen (starts_with eqb (b ∷ bs) (codes "//")) LineComment block (TokenOf Mark) e) [
      | inl otherwise ↦ absurd (let never : LineComment ≡ TokenOf Mark = otherwise.1 in cc)
      | inr e1 ↦
          elim (chosen (starts_with eqb (b ∷ bs) (codes "/*")) BlockComment raw (TokenOf Mark) e1.1) [
            | inl otherwise ↦ absurd (let never : BlockComment ≡ TokenOf Mark = otherwise.1 in cc)
            | inr e2 ↦
                elim (chosen (starts_with eqb (b ∷ bs) (codes "%{")) (TokenOf Raw) option (TokenOf Mark) e2.1) [
                  | inl otherwise ↦ absurd (let never : TokenOf Raw ≡ TokenOf Mark = otherwise.1 in cc)
                  | inr e3 ↦
                      elim (chosen (begins_option (b ∷ bs)) (TokenOf OptionLine) (plain_unit b bs) (TokenOf Mark) e3.1) [
                        | inl otherwise ↦ absurd (let never : TokenOf OptionLine ≡ TokenOf Mark = otherwise.1 in cc)
                        | inr e4 ↦ plain_mark b bs e4.1
                      ]
                ]
          ]
    ]

abbrev some_unit : LexicalUnit → Option LexicalUnit
some_unit p = Some p

-- ---- each unit

at_length : (p : LexicalUnit) (rest : List ℕ) (m n : ℕ) → IsFront p rest m → ◌≡◌ {A = Option ℕ} (Some m) (Some n) → IsFront p rest n
at_length p rest m n front e = let same : m ≡ n = cc in subst (λ k. IsFront p rest k) same front

at_more : (p : LexicalUnit) (rest : List ℕ) (o : Option ℕ) (k n : ℕ)
    → ((m : ℕ) → o ≡ Some m → IsFront p rest (k + m)) → (m : ℕ) × (o ≡ Some m) × (n ≡ k + m) → IsFront p rest n
at_more p rest o k n front found = subst (λ m. IsFront p rest m) (sym found.2) (front found.0 found.1)

run_at : (p : LexicalUnit) → ((b : ℕ) (w : List ℕ) → is_spelling p (b ∷ w) ≡ list_all (continues p) w) → (b : ℕ) (bs : List ℕ) (n : ℕ)
    → ◌≡◌ {A = Option ℕ} (Some (1 + prefix_len (continues p) bs)) (Some n) → IsFront p (b ∷ bs) n
run_at p spells b bs n e = at_length p (b ∷ bs) (1 + prefix_len (continues p) bs) n (run_front p spells b bs) e

opened_at : (p : LexicalUnit) → ((b : ℕ) (w : List ℕ) → is_spelling p (b ∷ w) ≡ is_closed p false (drop 1 w)) → (b : ℕ) (bs : List ℕ) (n : ℕ)
    → (m : ℕ) × (closed_len p false (drop 1 bs) ≡ Some m) × (n ≡ 2 + m) → IsFront p (b ∷ bs) n
opened_at p spells b bs n found = at_more p (b ∷ bs) (closed_len p false (drop 1 bs)) 2 n (opened_front p spells b bs) found

unit_is_front : (p : LexicalUnit) (b : ℕ) (bs : List ℕ) (n : ℕ) → first_unit b bs ≡ p → unit_len p (b ∷ bs) ≡ Some n → IsFront p (b ∷ bs) n
unit_is_front Blank b bs n first e = run_at Blank (λ b w. refl) b bs n e
unit_is_front LineComment b bs n first e = run_at LineComment (λ b w. refl) b bs n e
unit_is_front BlockComment b bs n first e = opened_at BlockComment (λ b w. refl) b bs n (add_length_found 2 (closed_len BlockComment false (drop 1 bs)) n e)
unit_is_front (TokenOf Name) b bs n first e = run_at (TokenOf Name) (λ b w. refl) b bs n e
unit_is_front (TokenOf Number) b bs n first e = run_at (TokenOf Number) (λ b w. refl) b bs n e
unit_is_front (TokenOf Quoted) b bs n first e =
    at_more (TokenOf Quoted) (b ∷ bs) (closed_len (TokenOf Quoted) false bs) 1 n (quoted_front b bs)
    (add_length_found 1 (closed_len (TokenOf Quoted) false bs) n e)
unit_is_front (TokenOf Raw) b bs n first e = opened_at (TokenOf Raw) (λ b w. refl) b bs n (add_length_found 2 (closed_len (TokenOf Raw) false (drop 1 bs)) n e)
unit_is_front (TokenOf OptionLine) b bs n first e = run_at (TokenOf OptionLine) (λ b w. refl) b bs n e
unit_is_front (TokenOf Mark) b bs n first e = at_length (TokenOf Mark) (b ∷ bs) (mark_len (b ∷ bs)) n (mark_is_front (b ∷ bs) (first_mark b bs first)) e
unit_is_front (TokenOf Other) b bs n first e = run_at (TokenOf Other) (λ b w. refl) b bs n e

-- No word of a unit is empty.
pub spelling_is_some : (p : LexicalUnit) → is_spelling p [] ≡ true → ⊥
spelling_is_some Blank e = false≢true e
spelling_is_some LineComment e = false≢true e
spelling_is_some BlockComment e = false≢true e
spelling_is_some (TokenOf Name) e = false≢true e
spelling_is_some (TokenOf Number) e = false≢true e
spelling_is_some (TokenOf Quoted) e = false≢true e
spelling_is_some (TokenOf Raw) e = false≢true e
spelling_is_some (TokenOf OptionLine) e = false≢true e
spelling_is_some (TokenOf Mark) e = false≢true e
spelling_is_some (TokenOf Other) e = false≢true e

no_word_after : (p : LexicalUnit) (bs : List ℕ) (d : ℕ) (w after : List ℕ) → (b : ℕ) → unit_len p (b ∷ bs) ≡ None
    → bs ≡ w ++ after → is_spelling p (d ∷ w) ≡ true → ⊥
no_word_after Blank bs d w after b e is spelled = none-some _ (sym e)
no_word_after LineComment bs d w after b e is spelled = none-some _ (sym e)
no_word_after BlockComment bs d w after b e is spelled =
    opened_none BlockComment (λ b w. refl) bs (add_length_none 2 (closed_len BlockComment false (drop 1 bs)) e) d w
    after is spelled
no_word_after (TokenOf Name) bs d w after b e is spelled = none-some _ (sym e)
no_word_after (TokenOf Number) bs d w after b e is spelled = none-some _ (sym e)
no_word_after (TokenOf Quoted) bs d w after b e is spelled =
    closed_none (TokenOf Quoted) false bs (add_length_none 1 (closed_len (TokenOf Quoted) false bs) e) w after is
    spelled
no_word_after (TokenOf Raw) bs d w after b e is spelled =
    opened_none (TokenOf Raw) (λ b w. refl) bs (add_length_none 2 (closed_len (TokenOf Raw) false (drop 1 bs)) e) d
    w after is spelled
no_word_after (TokenOf OptionLine) bs d w after b e is spelled = none-some _ (sym e)
no_word_after (TokenOf Mark) bs d w after b e is spelled = none-some _ (sym e)
no_word_after (TokenOf Other) bs d w after b e is spelled = none-some _ (sym e)

-- A unit without a length has no word at the front.
unit_is_none : (p : LexicalUnit) (b : ℕ) (bs : List ℕ) → unit_len p (b ∷ bs) ≡ None → (word after : List ℕ)
    → b ∷ bs ≡ word ++ after → is_spelling p word ≡ true → ⊥
unit_is_none p b bs e [] after is spelled = spelling_is_some p spelled
unit_is_none p b bs e (d ∷ w) after is spelled =
    let tails : bs ≡ w ++ after = cc in
    no_word_after p bs d w after b e tails spelled

-- ---- the unit at the front

abbrev pub Found : Type 0
Found = Option (LexicalUnit × ℕ)

abbrev pub found_unit : LexicalUnit → ℕ → Found
found_unit p n = Some (p, n)

abbrev pub nothing : Found
nothing = None

same_found : (p q : LexicalUnit) (m n : ℕ) → found_unit p m ≡ found_unit q n → (p ≡ q) × (m ≡ n)
same_found p q m n e =
    let pair : ◌≡◌ {A = LexicalUnit × ℕ} (p, m) (q, n) = cc in
    (ap (λ (r : LexicalUnit × ℕ). r.0) pair, ap (λ (r : LexicalUnit × ℕ). r.1) pair)

with_length_found : (q : LexicalUnit) (o : Option ℕ) (p : LexicalUnit) (n : ℕ) → option_map (λ len. (q, len)) o ≡ found_unit p n → (q ≡ p) × (o ≡ Some n)
with_length_found q None p n e = absurd (let never : nothing ≡ found_unit p n = e in cc)
with_length_found q (Some m) p n e =
    let parts = same_found q p m n e in
    (parts.0, ap (λ (k : ℕ). Some k) parts.1)

with_length_none : (q : LexicalUnit) (o : Option ℕ) → option_map (λ len. (q, len)) o ≡ nothing → o ≡ None
with_length_none q None e = refl
with_length_none q (Some m) e = absurd (let never : found_unit q m ≡ nothing = e in cc)

-- The unit found begins here, and is the longest.
pub front_found : (rest : List ℕ) (p : LexicalUnit) (n : ℕ) → front_unit rest ≡ found_unit p n → (unit_at rest ≡ Some p) × IsFront p rest n
front_found [] p n e = absurd (let never : nothing ≡ found_unit p n = e in cc)
front_found (b ∷ bs) p n e =
    let q = first_unit b bs in
    let parts = with_length_found q (unit_len q (b ∷ bs)) p n e in
    let len : unit_len p (b ∷ bs) ≡ Some n = subst (λ z. unit_len z (b ∷ bs) ≡ Some n) parts.0 parts.1 in
    (ap some_unit parts.0, unit_is_front p b bs n parts.0 len)

-- If none is found, no front is spelled as the unit that begins here.
pub front_none : (b : ℕ) (bs : List ℕ) → front_unit (b ∷ bs) ≡ nothing → (word after : List ℕ)
    → b ∷ bs ≡ word ++ after → is_spelling (first_unit b bs) word ≡ true → ⊥
front_none b bs e = unit_is_none (first_unit b bs) b bs (with_length_none (first_unit b bs) (unit_len (first_unit b bs) (b ∷ bs)) e)
