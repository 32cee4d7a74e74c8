-- In the spelling of a well-formed tree, no word is continued by what follows it.
use Rattle.std.proofs.Common.{◌≡◌, ℕ, ℤ, Bool, true, false, cond, List, [], ◌∷◌, ◌++◌, map, refl, sym, subst, inl, inr, arith}
use Rattle.std.specs.Prelude.{Option, Some, None, codes, nat_lt, ◌==◌, ◌||◌}
use Rattle.std.specs.List.{flat_map, list_all}
use Rattle.std.specs.Fmt.{signed_decimal}
use Rattle.std.proofs.lemmas.Bool.{and_parts, and_from, or_right, or_left}
use Rattle.std.proofs.lemmas.Option.{same_Some}
use Rattle.jdf_lex.specs.declared.lexical_unit.LexicalUnit.TheVariants as lex
use Rattle.jdf_lex.specs.declared.kind.TokenKind.TheVariants as kinds
use Rattle.grammar_core.specs.declared.token.Token.{Token}
use Rattle.jdf_lex.specs.Spelling.{is_letter, is_digit, is_part, is_mark, begins_part, short_marks, long_marks}
use Rattle.jdf_lex.specs.Tokens.{IsUnit}
use Rattle.term_core.specs.declared.operator.UnOp.{UnOp}
use Rattle.term_core.specs.declared.operator.UnOp.TheVariants as un
use Rattle.term_core.specs.declared.operator.BinOp.{BinOp}
use Rattle.term_core.specs.declared.operator.BinOp.TheVariants as bin
use Rattle.term_core.specs.declared.direction.Direction.{Direction}
use Rattle.term_core.specs.declared.direction.Direction.TheVariants.{In, Out}
use Rattle.term_core.specs.declared.flow.FlowKind.{FlowKind}
use Rattle.term_core.specs.declared.flow.FlowKind.TheVariants as kind
use Rattle.jdf_lex.specs.Terminals.{terminal_by}
use Rattle.jdf_lex.specs.Counted.{is_name}
use Rattle.jdf_tree.specs.declared.expression.Word.{Word}
use Rattle.jdf_tree.specs.declared.tree.ArgTree.{ArgTree}
use Rattle.jdf_tree.specs.declared.tree.ArgTree.TheVariants.{One, Span}
use Rattle.jdf_tree.specs.declared.tree.DefTree.{DefTree}
use Rattle.jdf_tree.specs.declared.tree.TargetTree.{TargetTree}
use Rattle.jdf_tree.specs.declared.tree.TargetTree.TheVariants.{Task, Element, New, Null}
use Rattle.jdf_tree.specs.declared.tree.DepTree.{DepTree}
use Rattle.jdf_tree.specs.declared.tree.FlowTree.{FlowTree}
use Rattle.jdf_tree.specs.declared.tree.ClassTree.{ClassTree}
use Rattle.jdf_tree.specs.declared.tree.Jdf.{Jdf}
use Rattle.jdf_tree.specs.Expression.{Expression, Num, Name, Elem, Unary, Binary, Choose}
use Rattle.print_laws.proofs.NumberTexts.{number_parts}
use Rattle.jdf_tree.specs.ClassGrammar.{Choice}
use Rattle.jdf_print.specs.Fragments.{Fragment, token, blank, text, space, newline, line, between, comma, separated, with_commas}
use Rattle.jdf_print.specs.Spelling as print
use Rattle.print_laws.proofs.Digits.{IsNumber, number_facts}
use Rattle.print_laws.proofs.Readable.{kind_of, IsWritten}
use Rattle.print_laws.proofs.Expressions.{IsWellFormed, IsName}
use Rattle.print_laws.proofs.Forms.{Every, IsOuter}
use Rattle.print_laws.proofs.Targets.{IsArgument, IsTarget, IsChoice, IsDatatype, IsDependence, choice_of}
use Rattle.print_laws.proofs.Classes.{IsFlow, IsDefinition, IsParameter, IsPriority, IsInBody, IsBody, IsClass, IsJob}
use Rattle.print_laws.proofs.Known.{no_mark_is_name}
use Rattle.print_laws.proofs.Marks.{IsGap, is_started, is_opener, among, among_pairs, written_before_gap, parts_unit}
use Rattle.print_laws.proofs.Marks.{left_paren, right_paren, left_bracket, right_bracket, minus_unit, not_unit}
use Rattle.print_laws.proofs.Lexing.{IsLexable, is_ascii, both_lex}

-- ---- words

-- A word of the spelling is ASCII.
part_ascii : (b : ℕ) → is_part b ≡ true → nat_lt b 128 ≡ true
part_ascii b h = grind arith

letter_ascii : (b : ℕ) → is_letter b ≡ true → nat_lt b 128 ≡ true
letter_ascii b h = grind arith

digit_ascii : (b : ℕ) → is_digit b ≡ true → nat_lt b 128 ≡ true
digit_ascii b h = grind arith

parts_ascii : (bs : List ℕ) → list_all is_part bs ≡ true → is_ascii bs ≡ true
parts_ascii [] h = refl
parts_ascii (b ∷ bs) h = let p = and_parts (is_part b) (list_all is_part bs) h in and_from (nat_lt b 128) (is_ascii bs) (part_ascii b p.0) (parts_ascii bs p.1)

mark_ascii : (w : List ℕ) → is_mark w ≡ true → is_ascii w ≡ true
mark_ascii [] h = refl
mark_ascii (a ∷ []) h = and_from (nat_lt a 128) true (among (λ c. nat_lt c 128) short_marks refl a h) refl
mark_ascii (a ∷ b ∷ []) h = among_pairs (λ c d. is_ascii (c ∷ d ∷ [])) long_marks refl a b h
mark_ascii (a ∷ b ∷ d ∷ ds) h = absurd (cc)

ascii_by : (b : ℕ) (bs : List ℕ) (l d : Bool) → is_letter b ≡ l → is_digit b ≡ d
    → cond (l || d) (list_all is_part bs) (is_mark (b ∷ bs)) ≡ true → is_ascii (b ∷ bs) ≡ true
ascii_by b bs true d e f h = and_from (nat_lt b 128) (is_ascii bs) (letter_ascii b e) (parts_ascii bs h)
ascii_by b bs false true e f h = and_from (nat_lt b 128) (is_ascii bs) (digit_ascii b f) (parts_ascii bs h)
ascii_by b bs false false e f h = mark_ascii (b ∷ bs) h

written_ascii : (w : List ℕ) → IsWritten w → is_ascii w ≡ true
written_ascii [] h = refl
written_ascii (b ∷ bs) h = ascii_by b bs (is_letter b) (is_digit b) refl refl h

-- A name or a number begins with a letter or a digit.
abbrev IsWord : List ℕ → Type 0
IsWord w = IsWritten w × (is_started w ≡ true)

started_by : (b : ℕ) (bs : List ℕ) (l d : Bool) → is_letter b ≡ l → is_digit b ≡ d
    → is_name (terminal_by (cond l kinds.Name (cond d kinds.Number kinds.Mark)) (b ∷ bs)) ≡ true → (l || d) ≡ true
started_by b bs true d e f h = refl
started_by b bs false true e f h = refl
started_by b bs false false e f h = let k = no_mark_is_name (b ∷ bs) in absurd (cc)

name_word : (w : List ℕ) → IsName w → IsWord w
name_word [] h = absurd (cc)
name_word (b ∷ bs) h = (h.0, started_by b bs (is_letter b) (is_digit b) refl refl h.1)

digits_parts : (bs : List ℕ) → list_all is_digit bs ≡ true → list_all is_part bs ≡ true
digits_parts [] h = refl
digits_parts (b ∷ bs) h =
    let p = and_parts (is_digit b) (list_all is_digit bs) h in
    and_from (is_part b) (list_all is_part bs) (or_right (is_letter b) (is_digit b) p.0) (digits_parts bs p.1)

digits_word : (w : List ℕ) → kind_of w ≡ kinds.Number → list_all is_digit w ≡ true → IsWord w
digits_word [] k h = absurd (cc)
digits_word (b ∷ bs) k h =
    let p = and_parts (is_digit b) (list_all is_digit bs) h in
    let e : (is_letter b || is_digit b) ≡ true = or_right (is_letter b) (is_digit b) p.0 in
    (rw e (digits_parts bs p.1), e)

number_word : (z : ℤ) → IsNumber z → IsWord (signed_decimal z)
number_word z formed =
    let k = number_facts z formed in
    let w = signed_decimal z in
    digits_word w k.kind (number_parts w k.good).1

-- ---- fragments

gap : Every IsGap (32 ∷ [])
gap = (inl refl, tt)

line_end : Every IsGap (10 ∷ [])
line_end = (inr refl, tt)

-- A name or a number, if what follows does not continue it.
word_lexes : (w : List ℕ) (ps : List Fragment) (after : List ℕ) → IsWord w → begins_part (text ps ++ after) ≡ false
    → IsLexable ps after → IsLexable (token w ∷ ps) after
word_lexes w ps after formed stop rest = (parts_unit w (text ps ++ after) formed.0 formed.1 stop, written_ascii w formed.0, rest)

-- A word, a space, and what follows them.
spaced : (w : List ℕ) (ps : List Fragment) (after : List ℕ) → IsWritten w → IsLexable ps after → IsLexable (token w ∷ space ∷ ps) after
spaced w ps after written rest = (written_before_gap w 32 (text ps ++ after) written (inl refl), written_ascii w written, (gap, rest))

-- A mark between spaces.
between_lexes : (w : List ℕ) (ps : List Fragment) (after : List ℕ) → IsWritten w → IsLexable ps after → IsLexable (between w ++ ps) after
between_lexes w ps after written rest = (gap, spaced w ps after written rest)

line_lexes : (ps : List Fragment) (after : List ℕ) → IsLexable ps (10 ∷ after) → IsLexable (line ps) after
line_lexes ps after h = both_lex ps (newline ∷ []) after h (line_end, tt)

-- ---- expressions

operator_written : (o : BinOp) → IsWritten (print.operator o)
operator_written bin.Add = refl
operator_written bin.Sub = refl
operator_written bin.Mul = refl
operator_written bin.Div = refl
operator_written bin.Rem = refl
operator_written bin.Eq = refl
operator_written bin.Ne = refl
operator_written bin.Lt = refl
operator_written bin.Le = refl
operator_written bin.Gt = refl
operator_written bin.Ge = refl
operator_written bin.And = refl
operator_written bin.Or = refl

-- The first byte may begin an operand.
record Opens (t : List ℕ) : Type 0 where
  first : ℕ
  others : List ℕ
  whole : t ≡ first ∷ others
  opener : is_opener first ≡ true

word_opens : (w after : List ℕ) → IsWord w → Opens ((w ++ []) ++ after)
word_opens [] after h = absurd (cc)
word_opens (b ∷ bs) after h = record { first = b; others = (bs ++ []) ++ after; whole = refl; opener = or_left (is_part b) (b == 40) h.1 }

opens : (e : Expression) → IsWellFormed e → (after : List ℕ) → Opens (text (print.expression e) ++ after)
opens (Num z spot) formed after = word_opens (signed_decimal z) after (number_word z formed)
opens (Name w) formed after = word_opens w.text after (name_word w.text formed)
opens (Elem w a) formed after = absurd formed
opens (Unary o a spot) formed after = record { first = 40; others = _; whole = refl; opener = refl }
opens (Binary o a b) formed after = record { first = 40; others = _; whole = refl; opener = refl }
opens (Choose c a b) formed after = record { first = 40; others = _; whole = refl; opener = refl }

sign_unit : (o : UnOp) (left : List ℕ) → Opens left → IsUnit (lex.TokenOf (kind_of (print.sign o))) (print.sign o) left
sign_unit un.Neg left k = let P : List ℕ → Type 0 = λ l. IsUnit (lex.TokenOf kinds.Mark) (45 ∷ []) l in subst P
    (sym k.whole) (minus_unit k.first k.others k.opener)
sign_unit un.Not left k = let P : List ℕ → Type 0 = λ l. IsUnit (lex.TokenOf kinds.Mark) (33 ∷ []) l in subst P
    (sym k.whole) (not_unit k.first k.others k.opener)

sign_ascii : (o : UnOp) → is_ascii (print.sign o) ≡ true
sign_ascii un.Neg = refl
sign_ascii un.Not = refl

-- Fragments in parentheses.
enclosed_lexes : (ps : List Fragment) (after : List ℕ) → IsLexable ps (41 ∷ after) → IsLexable (print.enclosed ps) after
enclosed_lexes ps after h = (
  left_paren (text (ps ++ token (codes ")") ∷ []) ++ after),
  refl,
  both_lex ps
      (token (codes ")") ∷ []) after h (right_paren after, refl, tt),
)

expression_lexes : (e : Expression) → IsWellFormed e → (after : List ℕ) → begins_part after ≡ false → IsLexable (print.expression e) after
expression_lexes (Num z spot) formed after stop = word_lexes (signed_decimal z) [] after (number_word z formed) stop tt
expression_lexes (Name w) formed after stop = word_lexes w.text [] after (name_word w.text formed) stop tt
expression_lexes (Elem w a) formed after stop = absurd formed
expression_lexes (Unary o a spot) formed after stop =
    enclosed_lexes (token (print.sign o) ∷ print.expression a) after
    (sign_unit o (text (print.expression a) ++ 41 ∷ after) (opens a formed (41 ∷ after)), sign_ascii o, expression_lexes a formed (41 ∷ after) refl)
expression_lexes (Binary o a b) formed after stop =
    enclosed_lexes (print.expression a ++ (between (print.operator o) ++ print.expression b)) after
    (both_lex (print.expression a) (between (print.operator o) ++ print.expression b) (41 ∷ after) (expression_lexes a formed.0 _ refl)
    (between_lexes (print.operator o) (print.expression b) (41 ∷ after) (operator_written o) (expression_lexes b formed.1 (41 ∷ after) refl)))
expression_lexes (Choose c a b) formed after stop =
    let tail = between (codes ":") ++ print.expression b in
    enclosed_lexes (print.expression c ++ (between (codes "?") ++ (print.expression a ++ tail))) after
    (both_lex (print.expression c) (between (codes "?") ++ (print.expression a ++ tail)) (41 ∷ after) (expression_lexes c formed.0 _ refl)
    (between_lexes (codes "?") (print.expression a ++ tail) (41 ∷ after) refl
    (both_lex (print.expression a) tail (41 ∷ after) (expression_lexes a formed.1 _ refl)
    (between_lexes (codes ":") (print.expression b) (41 ∷ after) refl
    (expression_lexes b formed.2 (41 ∷ after) refl)))))

-- ---- lists

-- Each is lexed if what follows does not continue a word.
abbrev EachIsLexable : {A : Type 0} → (A → Type 0) → (A → List Fragment) → Type 0
EachIsLexable {A = A} P f = (a : A) → P a → (after : List ℕ) → begins_part after ≡ false → IsLexable (f a) after

commas_lex : {A : Type 0} (P : A → Type 0) (f : A → List Fragment) → EachIsLexable P f → (xs : List A) → Every P xs
    → (after : List ℕ) → begins_part after ≡ false → IsLexable (with_commas (map f xs)) after
commas_lex P f each [] m after stop = tt
commas_lex P f each (x ∷ []) m after stop = each x m.0 after stop
commas_lex P f each (x ∷ y ∷ ys) m after stop =
    let rest = with_commas (map f (y ∷ ys)) in
    both_lex (f x) (comma ++ rest) after (each x m.0 _ refl) (spaced (codes ",") rest after refl (commas_lex P f each (y ∷ ys) m.1 after stop))

-- Each is lexed, whatever follows.
abbrev LinesAreLexable : {A : Type 0} → (A → Type 0) → (A → List Fragment) → Type 0
LinesAreLexable {A = A} P f = (a : A) → P a → (after : List ℕ) → IsLexable (f a) after

all_lex : {A : Type 0} (P : A → Type 0) (f : A → List Fragment) → LinesAreLexable P f → (xs : List A) → Every P xs
    → (after : List ℕ) → IsLexable (flat_map f xs) after
all_lex P f each [] m after = tt
all_lex P f each (x ∷ xs) m after = both_lex (f x) (flat_map f xs) after (each x m.0 _) (all_lex P f each xs m.1 after)

-- ---- arguments and targets

argument_lexes : (a : ArgTree) → IsArgument a → (after : List ℕ) → begins_part after ≡ false → IsLexable (print.argument a) after
argument_lexes (One e) formed after stop = expression_lexes e formed.0 after stop
argument_lexes (Span spot lo hi None) formed after stop =
    both_lex (print.expression lo) (between (codes "..") ++ (print.expression hi ++ [])) after (expression_lexes lo formed.0.0 _ refl)
    (between_lexes (codes "..") (print.expression hi ++ []) after refl (both_lex (print.expression hi) [] after (expression_lexes hi formed.1.0 after stop) tt))
argument_lexes (Span spot lo hi (Some by)) formed after stop =
    let tail = between (codes "..") ++ print.expression by in
    both_lex (print.expression lo) (between (codes "..") ++ (print.expression hi ++ tail)) after (expression_lexes lo formed.0.0 _ refl)
    (between_lexes (codes "..") (print.expression hi ++ tail) after refl
    (both_lex (print.expression hi) tail after (expression_lexes hi formed.1.0 _ refl)
    (between_lexes (codes "..") (print.expression by) after refl (expression_lexes by formed.2.0 after stop))))

arguments_lex : (args : List ArgTree) → Every IsArgument args → (after : List ℕ) → IsLexable (print.arguments args) after
arguments_lex args formed after = enclosed_lexes (with_commas (map print.argument args)) after
    (commas_lex IsArgument print.argument argument_lexes args formed (41 ∷ after) refl)

target_lexes : (t : TargetTree) → IsTarget t → (after : List ℕ) → begins_part after ≡ false → IsLexable (print.target t) after
target_lexes (Task flow class args) formed after stop =
    spaced flow.text (token class.text ∷ print.arguments args) after formed.0.0
    (word_lexes class.text (print.arguments args) after (name_word class.text formed.1) refl
    (arguments_lex args formed.2 after))
target_lexes (Element coll args) formed after stop = word_lexes coll.text (print.arguments args) after
    (name_word coll.text formed.0) refl (arguments_lex args formed.1 after)
target_lexes (New spot) formed after stop = word_lexes (codes "NEW") [] after (refl, refl) stop tt
target_lexes (Null spot) formed after stop = word_lexes (codes "NULL") [] after (refl, refl) stop tt

-- ---- dependences

guard_lexes : (g : Option Expression) → ((e : Expression) → g ≡ Some e → IsOuter e) → (after : List ℕ) → IsLexable (print.guard g) after
guard_lexes None formed after = tt
guard_lexes (Some c) formed after = both_lex (print.expression c) (between (codes "?")) after
    (expression_lexes c (formed c refl).0 _ refl) (between_lexes (codes "?") [] after refl tt)

datatype_lexes : (d : Option Word) → IsDatatype d → (after : List ℕ) → IsLexable (print.datatype d) after
datatype_lexes None formed after = tt
datatype_lexes (Some w) formed after = (
  gap,
  (
    left_bracket _,
    refl,
    (
      written_before_gap (codes "type") 32 _ refl (inl refl),
      refl,
      between_lexes (codes "=") (token w.text ∷ token (codes "]") ∷ []) after refl
          (word_lexes w.text (token (codes "]") ∷ []) after (name_word w.text formed) refl
          (right_bracket after, refl, tt)),
    ),
  ),
)

datatype_stops : (d : Option Word) (after : List ℕ) → begins_part after ≡ false → begins_part (text (print.datatype d) ++ after) ≡ false
datatype_stops None after stop = stop
datatype_stops (Some w) after stop = refl

choice_lexes : (c : Choice) → IsChoice c → (rest : List Fragment) (after : List ℕ)
    → begins_part (text rest ++ after) ≡ false → IsLexable rest after
    → IsLexable (print.guard c.0 ++ (print.target c.1 ++ (print.other c.2 ++ rest))) after
choice_lexes (None, t, None) formed rest after stop h = both_lex (print.target t) rest after (target_lexes t formed _ stop) h
choice_lexes (None, t, Some u) formed rest after stop h = absurd formed
choice_lexes (Some c, t, None) formed rest after stop h =
    both_lex (print.guard (Some c)) (print.target t ++ rest) after
    (guard_lexes (Some c) (λ e k. subst IsOuter (same_Some _ _ k) formed.0) _)
    (both_lex (print.target t) rest after (target_lexes t formed.1 _ stop) h)
choice_lexes (Some c, t, Some u) formed rest after stop h =
    let tail = between (codes ":") ++ print.target u in
    both_lex (print.guard (Some c)) (print.target t ++ (tail ++ rest)) after (guard_lexes (Some c) (λ e k. subst IsOuter (same_Some _ _ k) formed.0) _)
    (both_lex (print.target t) (tail ++ rest) after (target_lexes t formed.1 _ refl)
    (both_lex tail rest after (between_lexes (codes ":") (print.target u) _ refl (target_lexes u formed.2 _ stop))
    h))

arrow_written : (d : Direction) → IsWritten (print.arrow d)
arrow_written In = refl
arrow_written Out = refl

dependence_lexes : (d : DepTree) → IsDependence d → (after : List ℕ) → IsLexable (print.dependence d) after
dependence_lexes d formed after =
    line_lexes (blank (codes "  ") ∷ token (print.arrow d.direction) ∷ space ∷
    (print.guard d.guard ++ (print.target d.yes ++ (print.other d.no ++ print.datatype d.datatype)))) after (
      (inl refl, (inl refl, tt)),
      spaced (print.arrow d.direction) (print.guard d.guard ++
          (print.target d.yes ++ (print.other d.no ++ print.datatype d.datatype))) (10 ∷ after)
          (arrow_written d.direction)
          (choice_lexes (choice_of d) formed.choice (print.datatype d.datatype) (10 ∷ after)
          (datatype_stops d.datatype (10 ∷ after) refl) (datatype_lexes d.datatype formed.datatype (10 ∷ after))),
    )

-- ---- flows and classes

kind_written : (k : FlowKind) → IsWritten (print.kind_word k)
kind_written kind.Read = refl
kind_written kind.Write = refl
kind_written kind.Rw = refl
kind_written kind.Ctl = refl

flow_lexes : (f : FlowTree) → IsFlow f → (after : List ℕ) → IsLexable (print.flow f) after
flow_lexes f formed after =
    both_lex (line (token (print.kind_word f.kind) ∷ space ∷ token f.name.text ∷ [])) (flat_map print.dependence f.deps) after
    (line_lexes (token (print.kind_word f.kind) ∷ space ∷ token f.name.text ∷ []) _
    (spaced (print.kind_word f.kind) (token f.name.text ∷ []) _ (kind_written f.kind)
    (word_lexes f.name.text [] _ (name_word f.name.text formed.name) refl tt)))
    (all_lex IsDependence print.dependence dependence_lexes f.deps formed.deps after)

definition_lexes : (d : DefTree) → IsDefinition d → (after : List ℕ) → IsLexable (print.definition d) after
definition_lexes d formed after =
    line_lexes (token d.name.text ∷ (between (codes "=") ++ print.argument d.value)) after
    (word_lexes d.name.text (between (codes "=") ++ print.argument d.value) (10 ∷ after)
    (name_word d.name.text formed.name) refl (between_lexes (codes "=") (print.argument d.value) (10 ∷ after) refl
    (argument_lexes d.value formed.value (10 ∷ after) refl)))

head_lexes : (c : ClassTree) → IsClass c → (after : List ℕ) → IsLexable (print.head c) after
head_lexes c formed after =
    line_lexes (token c.name.text ∷ print.enclosed (with_commas (map (λ w. token w.text ∷ []) c.params))) after
    (word_lexes c.name.text (print.enclosed (with_commas (map (λ w. token w.text ∷ []) c.params))) (10 ∷ after) (name_word c.name.text formed.name) refl
    (enclosed_lexes (with_commas (map (λ w. token w.text ∷ []) c.params)) (10 ∷ after)
    (commas_lex IsParameter (λ w. token w.text ∷ []) (λ w m l stop. word_lexes w.text [] l (name_word w.text m) stop
    tt) c.params formed.params _ refl)))

affinity_lexes : (c : ClassTree) → IsClass c → (after : List ℕ) → IsLexable (print.affinity c) after
affinity_lexes c formed after =
    line_lexes (token (codes ":") ∷ space ∷ token c.affinity.text ∷ print.arguments c.affinity_args) after
    (spaced (codes ":") (token c.affinity.text ∷ print.arguments c.affinity_args) (10 ∷ after) refl
    (word_lexes c.affinity.text (print.arguments c.affinity_args) (10 ∷ after)
    (name_word c.affinity.text formed.affinity) refl (arguments_lex c.affinity_args formed.affinity_args
    (10 ∷ after))))

priority_lexes : (p : Option Expression) → IsPriority p → (after : List ℕ) → IsLexable (print.priority p) after
priority_lexes None formed after = tt
priority_lexes (Some e) formed after = line_lexes (token (codes ";") ∷ space ∷ print.expression e) after
    (spaced (codes ";") (print.expression e) (10 ∷ after) refl (expression_lexes e formed.0 (10 ∷ after) refl))

tokens_lex : (x : Token) (xs : List Token) → IsInBody x → Every IsInBody xs → (after : List ℕ)
    → IsLexable (separated (space ∷ []) (map (λ t. token t.text ∷ []) (x ∷ xs))) (10 ∷ after)
tokens_lex x [] m ms after = (written_before_gap x.text 10 after m.written (inr refl), written_ascii x.text m.written, tt)
tokens_lex x (y ∷ ys) m ms after = spaced x.text (separated (space ∷ []) (map (λ t. token t.text ∷ []) (y ∷ ys)))
    (10 ∷ after) m.written (tokens_lex y ys ms.0 ms.1 after)

body_lexes : (xs : List Token) → IsBody xs → (after : List ℕ) → IsLexable (print.body xs) after
body_lexes [] formed after = tt
body_lexes (x ∷ xs) formed after = line_lexes (separated (space ∷ []) (map (λ t. token t.text ∷ []) (x ∷ xs))) after (tokens_lex x xs formed.0 formed.2 after)

word_line : (w : List ℕ) → IsWord w → (after : List ℕ) → IsLexable (line (token w ∷ [])) after
word_line w formed after = line_lexes (token w ∷ []) after (word_lexes w [] (10 ∷ after) formed refl tt)

class_lexes : (c : ClassTree) → IsClass c → (after : List ℕ) → IsLexable (print.class c) after
class_lexes c formed after =
    let E = line (token (codes "END") ∷ []) in
    let X = print.body c.body ++ E in
    let B = line (token (codes "BODY") ∷ []) ++ X in
    let P = print.priority c.priority ++ B in
    let F = flat_map print.flow c.flows ++ P in
    let A = print.affinity c ++ F in
    let D = flat_map print.definition c.defs ++ A in (
      line_end,
      both_lex (print.head c) D after (head_lexes c formed _)
          (both_lex (flat_map print.definition c.defs) A after (all_lex IsDefinition print.definition definition_lexes c.defs formed.defs _)
          (both_lex (print.affinity c) F after (affinity_lexes c formed _)
          (both_lex (flat_map print.flow c.flows) P after (all_lex IsFlow print.flow flow_lexes c.flows formed.flows _)
          (both_lex (print.priority c.priority) B after (priority_lexes c.priority formed.priority _)
          (both_lex (line (token (codes "BODY") ∷ [])) X after (word_line (codes "BODY") (refl, refl) _)
          (both_lex (print.body c.body) E after (body_lexes c.body formed.body _) (word_line (codes "END") (refl, refl) after))))))),
    )

-- No word of the spelling of a well-formed tree is continued by what follows it.
pub job_lexes : (jdf : Jdf) → IsJob jdf → IsLexable (print.fragments jdf) []
job_lexes jdf formed =
    both_lex (flat_map (λ w. line (token w.text ∷ [])) jdf.globals) (flat_map print.class jdf.classes) []
    (all_lex IsParameter (λ w. line (token w.text ∷ [])) (λ w m l. word_line w.text (name_word w.text m) l) jdf.globals formed.globals _)
    (all_lex IsClass print.class class_lexes jdf.classes formed.classes [])
