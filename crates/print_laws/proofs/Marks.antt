-- The lexical unit of a word of the spelling, given the bytes that may follow it.
use Rattle.std.proofs.Common.{◌≡◌, ℕ, Bool, true, false, cond, List, [], ◌∷◌, ◌++◌, refl, sym, ap, subst, ◌∙◌, inl, inr, arith}
use Rattle.std.specs.Prelude.{◌⊎◌, not, ◌&&◌, ◌||◌, ◌==◌, nat_eq, Some, if◌then◌else◌}
use Rattle.std.specs.List.{list_any, list_all}
use Rattle.std.proofs.lemmas.Bool.{and_parts, eqb-true, not-true, or_right}
use Rattle.std.proofs.lemmas.List.Folds.{list_all-append}
use Rattle.jdf_lex.specs.declared.lexical_unit.LexicalUnit.TheVariants.{Blank, TokenOf}
use Rattle.jdf_lex.specs.declared.kind.TokenKind.TheVariants.{Name, Number, Mark, Other}
use Rattle.jdf_lex.specs.Spelling.{is_letter, is_digit, is_part, is_blank, short_marks, long_marks, is_mark, begins_mark, begins_part, first_unit, continues}
use Rattle.jdf_lex.specs.Tokens.{IsUnit}
use Rattle.print_laws.proofs.Readable.{kind_of, IsWritten}

-- ---- names and numbers

-- A byte that begins no comment, raw block, option line, quoted text or blank.
abbrev starts_plainly : ℕ → Bool
starts_plainly b = not (nat_eq 47 b) && (not (nat_eq 37 b) && (not (b == 34) && not (is_blank b)))

letter_plain : (b : ℕ) → is_letter b ≡ true → starts_plainly b ≡ true
letter_plain b h = grind arith

digit_plain : (b : ℕ) → is_digit b ≡ true → starts_plainly b ≡ true
digit_plain b h = grind arith

digit_no_letter : (b : ℕ) → is_digit b ≡ true → is_letter b ≡ false
digit_no_letter b h = grind arith

-- Such a byte begins a name, a number, a mark or another token.
plain_first : (b : ℕ) (rest : List ℕ) → starts_plainly b ≡ true
    → first_unit b rest ≡ (if is_letter b then TokenOf Name else
    (if is_digit b then TokenOf Number else (if begins_mark (b ∷ rest) then TokenOf Mark else TokenOf Other)))
plain_first b rest h =
    let p = and_parts (not (nat_eq 47 b)) (not (nat_eq 37 b) && (not (b == 34) && not (is_blank b))) h in
    let q = and_parts (not (nat_eq 37 b)) (not (b == 34) && not (is_blank b)) p.1 in
    let r = and_parts (not (b == 34)) (not (is_blank b)) q.1 in
    let slash = not-true (nat_eq 47 b) p.0 in
    let percent = not-true (nat_eq 37 b) q.0 in
    let quote = not-true (b == 34) r.0 in
    let blank = not-true (is_blank b) r.1 in
    rw (slash, percent, quote, blank) refl

no_more : (bs left : List ℕ) → begins_part left ≡ false → (more after : List ℕ) → left ≡ more ++ after → list_all is_part (bs ++ more) ≡ true → more ≡ []
no_more bs left stop [] after e h = refl
no_more bs left stop (d ∷ ds) after e h =
    let both = and_parts (list_all is_part bs) (list_all is_part (d ∷ ds)) (sym (list_all-append is_part bs (d ∷ ds)) ∙ h) in
    let one = and_parts (is_part d) (list_all is_part ds) both.1 in
    let begins : begins_part left ≡ is_part d = ap begins_part e in
    absurd (cc)

pub name_unit : (b : ℕ) (bs left : List ℕ) → is_letter b ≡ true → list_all is_part bs ≡ true → begins_part left ≡ false → IsUnit (TokenOf Name) (b ∷ bs) left
name_unit b bs left first others stop =
    record {
      begins = ap Some (plain_first b (bs ++ left) (letter_plain b first) ∙ rw first refl);
      spelled = others;
      longest = λ more after e h. no_more bs left stop more after e h;
    }

pub number_unit : (b : ℕ) (bs left : List ℕ) → is_digit b ≡ true → list_all is_part bs ≡ true → begins_part left ≡ false → IsUnit (TokenOf Number) (b ∷ bs) left
number_unit b bs left first others stop =
    record {
      begins = ap Some (plain_first b (bs ++ left) (digit_plain b first) ∙ rw (digit_no_letter b first, first) refl);
      spelled = others;
      longest = λ more after e h. no_more bs left stop more after e h;
    }

-- ---- marks

one_of_two : (q : ℕ → Bool) (m a : ℕ) (b c : Bool) → (m == a) ≡ b → q m ≡ true → (c ≡ true → q a ≡ true) → (b || c) ≡ true → q a ≡ true
one_of_two q m a true c e h f t = ap q (sym (eqb-true m a e)) ∙ h
one_of_two q m a false c e h f t = f t

-- What holds for each number of a list holds for one that is in it.
pub among : (q : ℕ → Bool) (ms : List ℕ) → list_all q ms ≡ true → (a : ℕ) → list_any (λ m. m == a) ms ≡ true → q a ≡ true
among q [] h a k = absurd (cc)
among q (m ∷ ms) h a k =
    let parts = and_parts (q m) (list_all q ms) h in
    one_of_two q m a (m == a) (list_any (λ n. n == a) ms) refl parts.0 (λ t. among q ms parts.1 a t) k

pair_of_two : (q : ℕ → ℕ → Bool) (m n a b : ℕ) (x y c : Bool) → (m == a) ≡ x → (n == b) ≡ y → q m n ≡ true
    → (c ≡ true → q a b ≡ true) → ((x && y) || c) ≡ true → q a b ≡ true
pair_of_two q m n a b true true c e k h f t = ap (λ (v : ℕ). q v b) (sym (eqb-true m a e)) ∙ ap (λ (v : ℕ). q m v) (sym (eqb-true n b k)) ∙ h
pair_of_two q m n a b true false c e k h f t = f t
pair_of_two q m n a b false y c e k h f t = f t

pub among_pairs : (q : ℕ → ℕ → Bool) (ms : List (ℕ × ℕ)) → list_all (λ m. q m.0 m.1) ms ≡ true → (a b : ℕ)
    → list_any (λ m. (m.0 == a) && (m.1 == b)) ms ≡ true → q a b ≡ true
among_pairs q [] h a b k = absurd (cc)
among_pairs q (m ∷ ms) h a b k =
    let parts = and_parts (q m.0 m.1) (list_all (λ n. q n.0 n.1) ms) h in
    pair_of_two q m.0 m.1 a b (m.0 == a) (m.1 == b) (list_any (λ n. (n.0 == a) && (n.1 == b)) ms) refl refl parts.0 (λ t. among_pairs q ms parts.1 a b t) k

-- The first byte of a mark is no letter, digit, quote or blank.
abbrev no_part : ℕ → Bool
no_part a = not (is_letter a) && not (is_digit a)

abbrev no_other : ℕ → Bool
no_other a = no_part a && (not (a == 34) && not (is_blank a))

short_first : (a : ℕ) → is_mark (a ∷ []) ≡ true → no_other a ≡ true
short_first a h = among no_other short_marks refl a h

long_first : (a b : ℕ) → is_mark (a ∷ b ∷ []) ≡ true → (no_part a && starts_plainly a) ≡ true
long_first a b h = among_pairs (λ x y. no_part x && starts_plainly x) long_marks refl a b h

begins_short : (a : ℕ) (left : List ℕ) → is_mark (a ∷ []) ≡ true → begins_mark (a ∷ left) ≡ true
begins_short a [] h = h
begins_short a (c ∷ left) h = or_right (is_mark (a ∷ c ∷ [])) (is_mark (a ∷ [])) h

-- This byte and the next one are no mark of two bytes.
abbrev pub IsAlone : ℕ → List ℕ → Type 0
IsAlone a left = (d : ℕ) (after : List ℕ) → left ≡ d ∷ after → is_mark (a ∷ d ∷ []) ≡ false

no_longer : (a : ℕ) (left : List ℕ) → IsAlone a left → (more after : List ℕ) → left ≡ more ++ after → is_mark (a ∷ more) ≡ true → more ≡ []
no_longer a left alone [] after e h = refl
no_longer a left alone (d ∷ []) after e h = let k = alone d after e in absurd (cc)
no_longer a left alone (d ∷ f ∷ ds) after e h = absurd (cc)

-- A mark of one byte, given the unit that begins there.
pub short_unit : (a : ℕ) (left : List ℕ) → is_mark (a ∷ []) ≡ true → first_unit a left ≡ TokenOf Mark → IsAlone a left → IsUnit (TokenOf Mark) (a ∷ []) left
short_unit a left mark first alone = record { begins = ap Some first; spelled = mark; longest = λ more after e h. no_longer a left alone more after e h }

first_mark : (a : ℕ) (left : List ℕ) → starts_plainly a ≡ true → no_part a ≡ true → begins_mark (a ∷ left) ≡ true → first_unit a left ≡ TokenOf Mark
first_mark a left plain none begins =
    let p = and_parts (not (is_letter a)) (not (is_digit a)) none in
    plain_first a left plain ∙ rw (not-true (is_letter a) p.0, not-true (is_digit a) p.1, begins) refl

three_bytes : (a b : ℕ) (more : List ℕ) → is_mark (a ∷ b ∷ more) ≡ true → more ≡ []
three_bytes a b [] h = refl
three_bytes a b (d ∷ ds) h = absurd (cc)

-- A mark of two bytes, whatever follows it.
pub long_unit : (a b : ℕ) (left : List ℕ) → is_mark (a ∷ b ∷ []) ≡ true → IsUnit (TokenOf Mark) (a ∷ b ∷ []) left
long_unit a b left mark =
    let p = and_parts (no_part a) (starts_plainly a) (long_first a b mark) in
    let begins : begins_mark (a ∷ b ∷ left) ≡ true = rw mark refl in
    record {
      begins = ap Some (first_mark a (b ∷ left) p.1 p.0 begins);
      spelled = mark;
      longest = λ more after e h. three_bytes a b more h;
    }

-- The byte is a space or LF.
abbrev pub IsGap : ℕ → Type 0
IsGap c = (c ≡ 32) ⊎ (c ≡ 10)

-- No mark of two bytes ends with a blank.
alone_at : (a c : ℕ) → is_blank c ≡ true → (b : Bool) → is_mark (a ∷ c ∷ []) ≡ b → is_mark (a ∷ c ∷ []) ≡ false
alone_at a c h true e = let k = not-true (is_blank c) (among_pairs (λ x y. not (is_blank y)) long_marks refl a c e) in absurd (cc)
alone_at a c h false e = e

gap_blank : (c : ℕ) → IsGap c → is_blank c ≡ true
gap_blank c (inl e) = ap is_blank e
gap_blank c (inr e) = ap is_blank e

slash_first : (c : ℕ) (rest : List ℕ) → IsGap c → first_unit 47 (c ∷ rest) ≡ TokenOf Mark
slash_first c rest (inl e) = let F : ℕ → Type 0 = λ v. first_unit 47 (v ∷ rest) ≡ TokenOf Mark in subst F (sym e) refl
slash_first c rest (inr e) = let F : ℕ → Type 0 = λ v. first_unit 47 (v ∷ rest) ≡ TokenOf Mark in subst F (sym e) refl

percent_first : (c : ℕ) (rest : List ℕ) → IsGap c → first_unit 37 (c ∷ rest) ≡ TokenOf Mark
percent_first c rest (inl e) = let F : ℕ → Type 0 = λ v. first_unit 37 (v ∷ rest) ≡ TokenOf Mark in subst F (sym e) refl
percent_first c rest (inr e) = let F : ℕ → Type 0 = λ v. first_unit 37 (v ∷ rest) ≡ TokenOf Mark in subst F (sym e) refl

plainly : (a : ℕ) → nat_eq 47 a ≡ false → nat_eq 37 a ≡ false → no_other a ≡ true → starts_plainly a ≡ true
plainly a e f h = let p = and_parts (no_part a) (not (a == 34) && not (is_blank a)) h in rw (e, f) p.1

first_before_gap : (a c : ℕ) (rest : List ℕ) → is_mark (a ∷ []) ≡ true → IsGap c → (p q : Bool) → nat_eq 47 a ≡ p
    → nat_eq 37 a ≡ q → first_unit a (c ∷ rest) ≡ TokenOf Mark
first_before_gap a c rest mark gap true q e f = let F : ℕ → Type 0 = λ v. first_unit v (c ∷ rest)
    ≡ TokenOf Mark in subst F (eqb-true 47 a e) (slash_first c rest gap)
first_before_gap a c rest mark gap false true e f = let F : ℕ
    → Type 0 = λ v. first_unit v (c ∷ rest) ≡ TokenOf Mark in subst F (eqb-true 37 a f) (percent_first c rest gap)
first_before_gap a c rest mark gap false false e f =
    let other = short_first a mark in
    first_mark a (c ∷ rest) (plainly a e f other) (and_parts (no_part a) (not (a == 34) && not (is_blank a)) other).0 (begins_short a (c ∷ rest) mark)

first_of : List ℕ → ℕ
first_of [] = 0
first_of (d ∷ ds) = d

short_before_gap : (a c : ℕ) (rest : List ℕ) → is_mark (a ∷ []) ≡ true → IsGap c → IsUnit (TokenOf Mark) (a ∷ []) (c ∷ rest)
unfolding first_of
short_before_gap a c rest mark gap =
    short_unit a (c ∷ rest) mark (first_before_gap a c rest mark gap (nat_eq 47 a) (nat_eq 37 a) refl refl)
    (λ d after e. let same : d ≡ c = sym (ap first_of e) in alone_at a d (ap is_blank same ∙ gap_blank c gap) (is_mark (a ∷ d ∷ [])) refl)

mark_before_gap : (w : List ℕ) (c : ℕ) (rest : List ℕ) → is_mark w ≡ true → IsGap c → IsUnit (TokenOf Mark) w (c ∷ rest)
mark_before_gap [] c rest mark gap = absurd (cc)
mark_before_gap (a ∷ []) c rest mark gap = short_before_gap a c rest mark gap
mark_before_gap (a ∷ b ∷ []) c rest mark gap = long_unit a b (c ∷ rest) mark
mark_before_gap (a ∷ b ∷ d ∷ ds) c rest mark gap = absurd (cc)

no_part_gap : (c : ℕ) → IsGap c → is_part c ≡ false
no_part_gap c (inl e) = ap is_part e
no_part_gap c (inr e) = ap is_part e

written_by : (b : ℕ) (bs : List ℕ) (c : ℕ) (rest : List ℕ) → IsGap c → (l d : Bool) → is_letter b ≡ l → is_digit b ≡ d
    → cond (l || d) (list_all is_part bs) (is_mark (b ∷ bs)) ≡ true
    → IsUnit (TokenOf (cond l Name (cond d Number Mark))) (b ∷ bs) (c ∷ rest)
written_by b bs c rest gap true d e f h = name_unit b bs (c ∷ rest) e h (no_part_gap c gap)
written_by b bs c rest gap false true e f h = number_unit b bs (c ∷ rest) f h (no_part_gap c gap)
written_by b bs c rest gap false false e f h = mark_before_gap (b ∷ bs) c rest h gap

-- A name, a number or a mark that a space or LF follows.
pub written_before_gap : (w : List ℕ) (c : ℕ) (rest : List ℕ) → IsWritten w → IsGap c → IsUnit (TokenOf (kind_of w)) w (c ∷ rest)
written_before_gap [] c rest h gap = absurd (cc)
written_before_gap (b ∷ bs) c rest h gap = written_by b bs c rest gap (is_letter b) (is_digit b) refl refl h

-- A name or a number, if what follows does not continue it.
parts_by : (b : ℕ) (bs left : List ℕ) → begins_part left ≡ false → (l d : Bool) → is_letter b ≡ l → is_digit b ≡ d
    → (l || d) ≡ true → cond (l || d) (list_all is_part bs) (is_mark (b ∷ bs)) ≡ true
    → IsUnit (TokenOf (cond l Name (cond d Number Mark))) (b ∷ bs) left
parts_by b bs left stop true d e f t h = name_unit b bs left e h stop
parts_by b bs left stop false true e f t h = number_unit b bs left f h stop
parts_by b bs left stop false false e f t h = absurd (cc)

-- The word is a name or a number, by its first byte.
abbrev pub is_started : List ℕ → Bool
is_started [] = false
is_started (b ∷ bs) = is_letter b || is_digit b

pub parts_unit : (w left : List ℕ) → IsWritten w → is_started w ≡ true → begins_part left ≡ false → IsUnit (TokenOf (kind_of w)) w left
parts_unit [] left h t stop = absurd (cc)
parts_unit (b ∷ bs) left h t stop = parts_by b bs left stop (is_letter b) (is_digit b) refl refl t h

none_more : (more : List ℕ) → list_all (continues Blank) more ≡ true → more ≡ []
none_more [] h = refl
none_more (d ∷ ds) h = absurd (cc)

-- A space or LF.
pub gap_unit : (c : ℕ) (left : List ℕ) → IsGap c → IsUnit Blank (c ∷ []) left
gap_unit c left (inl e) = let P : ℕ → Type 0 = λ v. IsUnit Blank (v ∷ []) left in subst P (sym e)
    (record { begins = refl; spelled = refl; longest = λ more after k h. none_more more h })
gap_unit c left (inr e) = let P : ℕ → Type 0 = λ v. IsUnit Blank (v ∷ []) left in subst P (sym e)
    (record { begins = refl; spelled = refl; longest = λ more after k h. none_more more h })

-- Parentheses and brackets, whatever follows them.
pub left_paren : (left : List ℕ) → IsUnit (TokenOf Mark) (40 ∷ []) left
left_paren left = short_unit 40 left refl (first_mark 40 left refl refl (begins_short 40 left refl)) (λ d after e. refl)

pub right_paren : (left : List ℕ) → IsUnit (TokenOf Mark) (41 ∷ []) left
right_paren left = short_unit 41 left refl (first_mark 41 left refl refl (begins_short 41 left refl)) (λ d after e. refl)

pub left_bracket : (left : List ℕ) → IsUnit (TokenOf Mark) (91 ∷ []) left
left_bracket left = short_unit 91 left refl (first_mark 91 left refl refl (begins_short 91 left refl)) (λ d after e. refl)

pub right_bracket : (left : List ℕ) → IsUnit (TokenOf Mark) (93 ∷ []) left
right_bracket left = short_unit 93 left refl (first_mark 93 left refl refl (begins_short 93 left refl)) (λ d after e. refl)

-- A byte that an operand may begin with.
abbrev pub is_opener : ℕ → Bool
is_opener d = is_part d || (d == 40)

no_arrow : (d : ℕ) → is_opener d ≡ true → is_mark (45 ∷ d ∷ []) ≡ false
no_arrow d h = grind arith

no_unequal : (d : ℕ) → is_opener d ≡ true → is_mark (33 ∷ d ∷ []) ≡ false
no_unequal d h = grind arith

pub minus_unit : (d : ℕ) (rest : List ℕ) → is_opener d ≡ true → IsUnit (TokenOf Mark) (45 ∷ []) (d ∷ rest)
unfolding first_of
minus_unit d rest h =
    short_unit 45 (d ∷ rest) refl (first_mark 45 (d ∷ rest) refl refl (begins_short 45 (d ∷ rest) refl))
    (λ c after e. no_arrow c (ap is_opener (sym (ap first_of e)) ∙ h))

pub not_unit : (d : ℕ) (rest : List ℕ) → is_opener d ≡ true → IsUnit (TokenOf Mark) (33 ∷ []) (d ∷ rest)
unfolding first_of
not_unit d rest h =
    short_unit 33 (d ∷ rest) refl (first_mark 33 (d ∷ rest) refl refl (begins_short 33 (d ∷ rest) refl))
    (λ c after e. no_unequal c (ap is_opener (sym (ap first_of e)) ∙ h))
