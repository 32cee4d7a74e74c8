-- A text declares at least as many variables as its tree, so a tree declares at most as many as a text may.
use Rattle.std.proofs.Common.{◌≡◌, ℕ, zero, suc, ◌+◌, ◌≤◌, ◌<◌, Bool, true, false, cond, List, [], ◌∷◌, ◌++◌, length}
use Rattle.std.proofs.Common.{refl, sym, ap, ◌∙◌, subst, inl, inr, append_assoc, arith}
use Rattle.std.specs.Prelude.{◌&&◌, Option, Some, None, nat_lt, nat_le}
use Rattle.std.proofs.lemmas.Bool.{ltb-false, or_right}
use Rattle.std.proofs.lemmas.Bool.Decides.{nat_tests}
use Rattle.std.proofs.lemmas.List.{append-nil}
use Rattle.std.proofs.lemmas.List.Sums.{sum_by-cons, sum_by_push}
use Rattle.grammar_core.specs.declared.token.Token.{Token}
use Rattle.jdf_lex.specs.declared.terminal.Terminal.{Terminal}
use Rattle.jdf_lex.specs.declared.terminal.Terminal.TheVariants as terminal
use Rattle.grammar_core.specs.declared.code.Code.{Code}
use Rattle.jdf_lex.specs.Codes.{TooManyVars}
use Rattle.grammar_core.specs.Production.{seq, map, alt, opt, star, limited, Fault, Language, Many, Derives}
use Rattle.grammar_core.specs.Production.{DerivedWithin, Derived, IsText, cut_at, taken, one_of, checked, pick}
use Rattle.grammar_core.specs.Production.{after_token}
use Rattle.grammar_core.specs.LimitBy.{index_by}
use Rattle.jdf_lex.specs.Terminals.{terminal_of, is, set}
use Rattle.jdf_lex.specs.Sets as sets
use Rattle.jdf_tree.specs.declared.body.StmtTree.{StmtTree}
use Rattle.jdf_tree.specs.declared.body.StmtTree.TheVariants as stmt
use Rattle.jdf_tree.specs.declared.expression.ExprWithSpot.{ExprWithSpot}
use Rattle.jdf_tree.specs.declared.expression.Word.{Word}
use Rattle.jdf_tree.specs.declared.part.Part.TheVariants.{Body}
use Rattle.jdf_tree.specs.BlockStatements.{then, statements_of}
use Rattle.jdf_tree.specs.BodyGrammar.{block, value, declare_of, declaration, element, assign_of, assignment, if_of}
use Rattle.jdf_tree.specs.BodyGrammar.{condition, otherwise, choice, for_of, for_loop, trap_statement, statement}
use Rattle.jdf_tree.specs.BodyGrammar.{statements, block_rest, text, body}
use Rattle.jdf_tree.specs.BodyLimits.{how_many, declares, is_too_many, variable_limit}
use Rattle.jdf_tree.specs.ExpressionGrammar.{outer}
use Rattle.jdf_tree.specs.Grammar.{productions}
use Rattle.jdf_tree.specs.Nonterminal.{Nonterminal, an_expr, a_unary, a_file, a_block, TreeOf, Grammar}
use Rattle.jdf_tree.specs.GrammarParts.{word, prefixed_by, suffixed_by, any, name}
use Rattle.jdf_tree.specs.Statements.{Statements}
use Rattle.body_laws.specs.Declarations.{declarations}
use Rattle.list_lemmas.specs.Counting.{weigh}

-- how many of these tokens declare a variable
abbrev remaining : List Token → ℕ
remaining s = how_many declares s

remaining_cons : (x : Token) (s : List Token) → remaining (x ∷ s) ≡ cond (declares (terminal_of x)) 1 0 + remaining s
remaining_cons x s = sum_by-cons (λ y. cond (declares (terminal_of y)) 1 0) x s

-- ---- how many a statement declares

abbrev pub declared : StmtTree → ℕ
declared (stmt.Declare w e) = 1
declared (stmt.Set w e) = 0
declared (stmt.Put w at e) = 0
declared (stmt.If c first second) = declarations first + declarations second
declared (stmt.For w lo hi turn) = 1 + declarations turn
declared (stmt.Trap w) = 0

abbrev if_there : {A : Type 0} → (A → ℕ) → Option A → ℕ
if_there f None = 0
if_there f (Some x) = f x

pub then_declares : (s : StmtTree) (rest : Statements) → declarations (then s rest) ≡ declared s + declarations rest
then_declares (stmt.Declare w e) rest = omega arith
then_declares (stmt.Set w e) rest = omega arith
then_declares (stmt.Put w at e) rest = omega arith
then_declares (stmt.If c first second) rest = omega arith
then_declares (stmt.For w lo hi turn) rest = omega arith
then_declares (stmt.Trap w) rest = omega arith

pub statements_declare : (ss : List StmtTree) → declarations (statements_of ss) ≡ weigh declared ss
statements_declare [] = refl
statements_declare (s ∷ ss) = then_declares s (statements_of ss) ∙ ap (λ (n : ℕ). declared s + n) (statements_declare ss)

-- ---- forms of text, by what their trees declare

-- how many variables the tree of a nonterminal declares
abbrev of_name : (n : Nonterminal) → TreeOf n → ℕ
of_name (an_expr part) t = 0
of_name (a_unary part) t = 0
of_name a_file t = 0
of_name a_block t = declarations t

-- a tree declares at most as many variables as its tokens
abbrev Spends : {A : Type 0} → Language A → (A → ℕ) → Type 0
Spends {A = A} G f = (s : List Token) (t : A) (o : Fault) (r : List Token) → G s t o r → f t + remaining r ≤ remaining s

one_spends : (q : ℕ → Bool) (s : List Token) (x : Token) (r : List Token) → s ≡ x ∷ r → remaining r ≤ remaining s
one_spends q s x r e = let k = remaining_cons x r in omega (arith, k, ap remaining e)

module _ (R : (n : Nonterminal) → Language (TreeOf n)) (H : (n : Nonterminal) → Spends (R n) (of_name n)) where
  many_none : {A : Type 0} (full : ℕ → Option Code) (G : Language A) → Spends G (λ t. 0)
      → (i : ℕ) (ts : List A) (s : List Token) (o : Fault) (r : List Token) → Many full G i s ts o r
      → remaining r ≤ remaining s
  many_none full G f i [] s o r h = omega (arith, ap remaining h.0)
  many_none full G f i (t ∷ ts) s o r h =
      let a = f s t h.1 h.0 h.3 in let b = many_none full G f (suc i) ts h.0 h.2 r h.4 in omega (arith, a, b)

  -- after a tree at most as many declaring tokens remain as before it
  none : {A : Type 0} (g : Grammar A) → Spends (Derives R g) (λ t. 0)
  none (one_of q) s t o r h = let k = one_spends q s t r h.0.0 in omega (arith, k)
  none (checked q good c) s t o r h = let k = one_spends q s t r h.0.0 in omega (arith, k)
  none (seq g k) s t o r h = let a = none g s t.0 h.1 h.0 h.3 in let b = none k h.0 t.1 h.2 r h.4 in omega (arith, a, b)
  none (map v g) s t o r h = none g s h.0 o r h.1
  none (alt g k) s t o r h = elim h [ inl u ↦ none g s t o r u | inr u ↦ none k s t o r u ]
  none (pick q g k) s t o r h = elim h [ inl u ↦ none g s t o r u | inr u ↦ none k s t o r u ]
  none (opt g) s None o r h = omega (arith, ap remaining h.0)
  none (opt g) s (Some t) o r h = none g s t o r h
  none (star full g) s t o r h = let k = many_none full (Derives R g) (none g) 0 t s o r h in omega (arith, k)
  none (after_token q n) s t o r h = let a = one_spends q s t.0 h.0 h.2.0 in let b = H n h.0 t.1 h.1 r h.3 in omega (arith, a, b)
  none (limited l c g) s t o r h = none g s t h.0 r h.1

  both : {A B : Type 0} (g : Grammar A) (k : Grammar B) (f : A → ℕ) (e : B → ℕ) → Spends (Derives R g) f
      → Spends (Derives R k) e → Spends (Derives R (seq g k)) (λ x. f x.0 + e x.1)
  both g k f e a b s t o r h = let x = a s t.0 h.1 h.0 h.3 in let y = b h.0 t.1 h.2 r h.4 in omega (arith, x, y)

  mapped : {A B : Type 0} (v : A → B) (g : Grammar A) (f : A → ℕ) (e : B → ℕ) → Spends (Derives R g) f
      → ((a : A) → e (v a) ≤ f a) → Spends (Derives R (map v g)) e
  mapped {B = B} v g f e a le s t o r h = let x = a s h.0 o r h.1 in let y = le h.0 in let same : e (v h.0) ≡ e t = ap e h.2 in omega (arith, x, y, same)

  either : {A : Type 0} (g k : Grammar A) (f : A → ℕ) → Spends (Derives R g) f → Spends (Derives R k) f → Spends (Derives R (alt g k)) f
  either g k f a b s t o r h = elim h [ inl u ↦ a s t o r u | inr u ↦ b s t o r u ]

  perhaps : {A : Type 0} (g : Grammar A) (f : A → ℕ) → Spends (Derives R g) f → Spends (Derives R (opt g)) (if_there f)
  perhaps g f a s None o r h = omega (arith, ap remaining h.0)
  perhaps g f a s (Some t) o r h = a s t o r h

  many_spend : {A : Type 0} (full : ℕ → Option Code) (g : Grammar A) (f : A → ℕ) → Spends (Derives R g) f
      → (i : ℕ) (ts : List A) (s : List Token) (o : Fault) (r : List Token) → Many full (Derives R g) i s ts o r
      → weigh f ts + remaining r ≤ remaining s
  many_spend full g f a i [] s o r h = omega (arith, ap remaining h.0)
  many_spend full g f a i (t ∷ ts) s o r h = let x = a s t h.1 h.0 h.3 in let y = many_spend full g f a (suc i) ts h.0 h.2 r h.4 in omega (arith, x, y)

  -- the count of one token that declares
  abbrev one_more : ℕ
  one_more = 1

  a_declaring : (k : Terminal) → ((j : Terminal) → is k j ≡ true → declares j ≡ true) → Spends (Derives R (word k)) (λ x. 1)
  a_declaring k yes' s t o r h = let d = yes' (terminal_of t) h.0.1 in let e = remaining_cons t r in let one : cond
      (declares (terminal_of t)) 1 0 ≡ one_more = rw d refl in omega (arith, e, one, ap remaining h.0.0)

  behind_word : {A : Type 0} (k : Terminal) (g : Grammar A) (f : A → ℕ) → Spends (Derives R g) f → Spends (Derives R (prefixed_by k g)) f
  behind_word k g f a = mapped (λ x. x.1) (seq (word k) g) (λ x. 0 + f x.1) f (both (word k) g (λ x. 0) f (none (word k)) a) (λ a. omega arith)

  before_word : {A : Type 0} (k : Terminal) (g : Grammar A) (f : A → ℕ) → Spends (Derives R g) f → Spends (Derives R (suffixed_by k g)) f
  before_word k g f a = mapped (λ x. x.0) (seq g (word k)) (λ x. f x.0 + 0) f (both g (word k) f (λ x. 0) a (none (word k))) (λ a. omega arith)

  declaring : {A : Type 0} (k : Terminal) (g : Grammar A) (f : A → ℕ)
      → ((j : Terminal) → is k j ≡ true → declares j ≡ true) → Spends (Derives R g) f
      → Spends (Derives R (prefixed_by k g)) (λ x. 1 + f x)
  declaring k g f d a = mapped (λ x. x.1) (seq (word k) g) (λ x. 1 + f x.1) (λ x. 1 + f x) (both (word k) g (λ x. 1) f (a_declaring k d) a) (λ a. omega arith)

  -- ---- statements

  int_declares : (j : Terminal) → is terminal.Int j ≡ true → declares j ≡ true
  int_declares j e = rw e refl

  for_declares : (j : Terminal) → is terminal.For j ≡ true → declares j ≡ true
  for_declares j e = or_right (is terminal.Int j) (is terminal.For j) e

  block_spends : Spends (Derives R block) declarations
  unfolding block
  block_spends = mapped (λ x. x.1) (sets.after_token (is terminal.LeftBrace) a_block) (λ x. declarations x.1) declarations one (λ a. omega arith)
    where
      one : Spends (Derives R (sets.after_token (is terminal.LeftBrace) a_block)) (λ x. declarations x.1)
      one s t o r h = let a = one_spends (set (is terminal.LeftBrace)) s t.0 h.0 h.2.0 in let b = H a_block h.0 t.1 h.1 r h.3 in omega (arith, a, b)

  declaration_spends : Spends (Derives R declaration) declared
  unfolding declaration
  declaration_spends =
      mapped declare_of (prefixed_by terminal.Int (seq (name Body) value)) (λ x. 1 + 0) declared
      (declaring terminal.Int (seq (name Body) value) (λ x. 0) int_declares (none (seq (name Body) value)))
      (λ a. omega arith)

  assignment_spends : Spends (Derives R assignment) declared
  unfolding assignment
  assignment_spends = mapped assign_of (seq (name Body) (seq (opt element) value)) (λ x. 0) declared (none (seq (name Body) (seq (opt element) value))) nothing
    where
      nothing : (a : Word × (Option ExprWithSpot × ExprWithSpot)) → declared (assign_of a) ≤ 0
      nothing (w, (None, e)) = omega arith
      nothing (w, (Some at, e)) = omega arith

  otherwise_spends : Spends (Derives R otherwise) declarations
  unfolding otherwise
  otherwise_spends = behind_word terminal.Else block declarations block_spends

  abbrev of_choice : ExprWithSpot × (Statements × Option Statements) → ℕ
  of_choice x = 0 + (declarations x.1.0 + if_there declarations x.1.1)

  choice_spends : Spends (Derives R choice) declared
  unfolding choice
  choice_spends =
      mapped if_of (prefixed_by terminal.If (seq condition (seq block (opt otherwise)))) of_choice declared
      (behind_word terminal.If (seq condition (seq block (opt otherwise))) of_choice
      (both condition (seq block (opt otherwise)) (λ x. 0) (λ x. declarations x.0 + if_there declarations x.1) (none condition)
      (both block (opt otherwise) declarations (if_there declarations) block_spends (perhaps otherwise declarations otherwise_spends)))) parts
    where
      parts : (a : ExprWithSpot × (Statements × Option Statements)) → declared (if_of a) ≤ of_choice a
      parts (c, (first, None)) = omega arith
      parts (c, (first, Some second)) = omega arith

  abbrev of_loop : Word × (ExprWithSpot × (ExprWithSpot × Statements)) → ℕ
  of_loop x = 0 + (0 + (0 + declarations x.1.1.1))

  for_loop_spends : Spends (Derives R for_loop) declared
  unfolding for_loop
  for_loop_spends =
      mapped for_of (prefixed_by terminal.For (seq (name Body)
      (seq (prefixed_by terminal.Assign (outer Body)) (seq (prefixed_by terminal.Dots (outer Body)) block))))
      (λ x. 1 + of_loop x) declared
      (declaring terminal.For (seq (name Body) (seq (prefixed_by terminal.Assign (outer Body))
      (seq (prefixed_by terminal.Dots (outer Body)) block))) of_loop for_declares
      (both (name Body) (seq (prefixed_by terminal.Assign (outer Body))
      (seq (prefixed_by terminal.Dots (outer Body)) block)) (λ x. 0) (λ x. 0 + (0 + declarations x.1.1))
      (none (name Body))
      (both (prefixed_by terminal.Assign (outer Body)) (seq (prefixed_by terminal.Dots (outer Body)) block) (λ x. 0)
      (λ x. 0 + declarations x.1) (none (prefixed_by terminal.Assign (outer Body)))
      (both (prefixed_by terminal.Dots (outer Body)) block (λ x. 0) declarations
      (none (prefixed_by terminal.Dots (outer Body))) block_spends)))) (λ a. omega arith)

  stop_spends : Spends (Derives R trap_statement) declared
  unfolding trap_statement
  stop_spends = mapped stmt.Trap (prefixed_by terminal.Trap (suffixed_by terminal.Semicolon (name Body))) (λ x. 0)
      declared (none (prefixed_by terminal.Trap (suffixed_by terminal.Semicolon (name Body)))) (λ a. omega arith)

  statement_spends : Spends (Derives R statement) declared
  unfolding statement
  statement_spends =
      either declaration (alt choice (alt for_loop (alt trap_statement assignment))) declared declaration_spends
      (either choice (alt for_loop (alt trap_statement assignment)) declared choice_spends
      (either for_loop (alt trap_statement assignment) declared for_loop_spends
      (either trap_statement assignment declared stop_spends assignment_spends)))

  statements_spend : Spends (Derives R statements) declarations
  unfolding statements
  statements_spend =
      mapped statements_of (star any statement) (weigh declared) declarations (λ s t o r h. many_spend any statement declared statement_spends 0 t s o r h)
      (λ ss. let e = statements_declare ss in omega (arith, e))

  block_rest_spends : Spends (Derives R block_rest) declarations
  unfolding block_rest
  block_rest_spends = before_word terminal.RightBrace statements declarations statements_spend

  pub text_spends : Spends (Derives R text) declarations
  unfolding text
  text_spends = either block statements declarations block_spends statements_spend

-- ---- names of any depth

within_spends : (k : ℕ) (n : Nonterminal) → Spends (DerivedWithin productions k n) (of_name n)
unfolding productions
within_spends zero n s t o r h = absurd h
within_spends (suc k) (an_expr part) s t o r h = none (DerivedWithin productions k) (within_spends k) (productions (an_expr part)) s t o r h
within_spends (suc k) (a_unary part) s t o r h = none (DerivedWithin productions k) (within_spends k) (productions (a_unary part)) s t o r h
within_spends (suc k) a_file s t o r h = none (DerivedWithin productions k) (within_spends k) (productions a_file) s t o r h
within_spends (suc k) a_block s t o r h = block_rest_spends (DerivedWithin productions k) (within_spends k) s t o r h

text_declares : (s : List Token) (t : Statements) (o : Fault) (r : List Token)
    → Derives (Derived productions) text s t o r → declarations t + remaining r ≤ remaining s
text_declares s t o r h = text_spends (Derived productions) (λ n s t o r d. within_spends d.depth n s t o r d.derives) s t o r h

-- ---- the limit

-- the tokens before the first declaration that is too many declare at most as many variables as are allowed
bounded_before : (s front : List Token) → remaining front ≤ 256 → length s ≤ index_by is_too_many front s → remaining (front ++ s) ≤ 256
unfolding index_by is_too_many
bounded_before [] front at_most h = subst (λ (l : List Token). remaining l ≤ 256) (sym (append-nil front)) at_most
bounded_before (x ∷ s) front at_most h = go (declares (terminal_of x)) (nat_le 256 (remaining front)) refl refl h (bounded_before s (front ++ x ∷ []))
  where
    more : remaining (front ++ x ∷ []) ≡ remaining front + cond (declares (terminal_of x)) 1 0
    more = sum_by_push (λ y. cond (declares (terminal_of y)) 1 0) front x

    along : remaining ((front ++ x ∷ []) ++ s) ≡ remaining (front ++ x ∷ s)
    along = ap remaining (append_assoc front (x ∷ []) s)

    go : (d full : Bool) → declares (terminal_of x) ≡ d → nat_le 256 (remaining front) ≡ full
        → suc (length s) ≤ cond (d && full) 0 (suc (index_by is_too_many (front ++ x ∷ []) s))
        → (remaining (front ++ x ∷ []) ≤ 256 → length s ≤ index_by is_too_many (front ++ x ∷ []) s
        → remaining ((front ++ x ∷ []) ++ s) ≤ 256) → remaining (front ++ x ∷ s) ≤ 256
    go true true e f h later = absurd (omega arith)
    go true false e f h later =
        let room : remaining front < 256 = grind (arith, nat_tests) in
        let one : remaining (front ++ x ∷ []) ≡ remaining front + 1 = more ∙ ap (λ (b : Bool). remaining front + cond b 1 0) e in
        let k = later (omega (arith, one, room)) (omega arith) in omega (arith, k, along)
    go false full e f h later =
        let same : remaining (front ++ x ∷ []) ≡ remaining front + 0 = more ∙ ap (λ (b : Bool). remaining front + cond b 1 0) e in
        let k = later (omega (arith, same, at_most)) (omega arith) in omega (arith, k, along)

-- if a limit leaves no fault, the tokens are within it
none_cut : (l : ℕ) (c : Code) (n : ℕ) (x : Fault) → cut_at l c n x ≡ None → n ≤ l
none_cut l c n None e = go (nat_lt l n) refl e
  where
    go : (b : Bool) → nat_lt l n ≡ b → (let f : Fault = cond b (Some (l, c)) None in f ≡ None) → n ≤ l
    go true t h = absurd cc
    go false t h = ltb-false l n t
none_cut l c n (Some f) e = go (nat_lt l f.0) e
  where
    go : (b : Bool) → (let g : Fault = cond b (Some (l, c)) (Some f) in g ≡ None) → n ≤ l
    go true h = absurd cc
    go false h = absurd cc

-- A tree of a text declares at most 256 variables.
pub variables_at_most : (s : List Token) (t : Statements) → IsText productions body s t None → declarations t ≤ 256
unfolding body variable_limit
variables_at_most s t h =
    let inside = h.1.1 in
    let spent = text_declares s t h.1.0 [] inside in
    let within : taken s [] ≤ index_by is_too_many [] s = none_cut (index_by is_too_many [] s) TooManyVars (taken s []) h.0 (sym h.2) in
    let at_most = bounded_before s [] (omega arith) (omega (arith, within)) in
    omega (arith, spent, at_most)
