-- The tokens of an expression's spelling derive a tree that is the expression but for spots.
use Rattle.std.proofs.Common.{◌≡◌, ℕ, ℤ, pos, Bool, true, List, [], ◌∷◌, ◌++◌, refl, sym, ap, subst, ◌∙◌, inl, inr}
use Rattle.std.specs.Prelude.{Some, None, codes}
use Rattle.std.specs.Fmt.{signed_decimal}
use Rattle.grammar_core.specs.declared.token.Spot.{Spot}
use Rattle.grammar_core.specs.declared.token.Token.{Token}
use Rattle.term_core.specs.declared.operator.UnOp.{UnOp}
use Rattle.term_core.specs.declared.operator.UnOp.TheVariants as un
use Rattle.term_core.specs.declared.operator.BinOp.{BinOp}
use Rattle.term_core.specs.declared.operator.BinOp.TheVariants as bin
use Rattle.jdf_lex.specs.declared.terminal.Terminal.{Terminal}
use Rattle.jdf_lex.specs.declared.terminal.Terminal.TheVariants as terminal
use Rattle.jdf_lex.specs.Terminals.{words, marks, terminal_of, is}
use Rattle.jdf_lex.specs.Codes.{BadNumber}
use Rattle.jdf_lex.specs.Counted.{is_name}
use Rattle.grammar_core.specs.Production.{Derives, Derived, bad_unless}
use Rattle.jdf_tree.specs.declared.expression.Word.{Word}
use Rattle.jdf_tree.specs.declared.expression.ExprWithSpot.{ExprWithSpot}
use Rattle.jdf_tree.specs.declared.part.Part.TheVariants.{Class}
use Rattle.jdf_tree.specs.Expression.{Expression, Num, Name, Elem, Unary, Binary, Choose}
use Rattle.jdf_tree.specs.Numbers.{decimal, is_number}
use Rattle.jdf_tree.specs.Nonterminal.{an_expr, a_unary, Grammar}
use Rattle.jdf_tree.specs.GrammarParts.{word_of, names}
use Rattle.jdf_tree.specs.Grammar.{productions}
use Rattle.jdf_tree.specs.ExpressionGrammar.{with_spot, number_at, name_alone, is_sign, operator_by, operator_of}
use Rattle.jdf_tree.specs.ExpressionGrammar.{ranked, sign_by, number, reference, signed, parens, unary, is_product}
use Rattle.jdf_tree.specs.ExpressionGrammar.{is_sum, is_relation, is_equality, is_conjunction, is_disjunction, product}
use Rattle.jdf_tree.specs.ExpressionGrammar.{sum, relation, equality, conjunction, disjunction, branches, expr}
use Rattle.jdf_print.specs.Fragments.{token, between}
use Rattle.jdf_print.specs.Spelling as print
use Rattle.print_laws.specs.Same as same
use Rattle.print_laws.specs.Same.{nowhere}
use Rattle.print_laws.proofs.Digits.{IsNumber, number_facts}
use Rattle.print_laws.proofs.Depth.{named}
use Rattle.print_laws.proofs.Readable.{IsWritten, terminal_at, IsLike, Reads, reads_both, like_terminal, is_one}

-- The grammar derives the tree from the tokens before `r`, without a fault.
abbrev pub DerivesTree : {A : Type 0} → Grammar A → List Token → A → List Token → Type 0
DerivesTree g s t r = Derives (Derived productions) g s t None r

-- The word is a name.
abbrev pub IsName : List ℕ → Type 0
IsName w = IsWritten w × (is_name (terminal_at w) ≡ true)

-- An expression that a class of a text can have: it has no element, its names are names, and its numbers are numbers of
-- a text.
abbrev pub IsWellFormed : Expression → Type 0
IsWellFormed (Num z spot) = IsNumber z
IsWellFormed (Name w) = IsName w.text
IsWellFormed (Elem w a) = ⊥
IsWellFormed (Unary o a spot) = IsWellFormed a
IsWellFormed (Binary o a b) = IsWellFormed a × IsWellFormed b
IsWellFormed (Choose c a b) = IsWellFormed c × IsWellFormed a × IsWellFormed b

-- ---- ranks

alone : (ops : Terminal → Bool) (g : Grammar ExprWithSpot) (s : List Token) (p : ExprWithSpot) (r : List Token)
    → DerivesTree g s p r → DerivesTree (ranked ops g) s p r
alone ops g s p r h = ((p, []), (r, None, None, h, (refl, refl), refl), refl)

two : (ops : Terminal → Bool) (g : Grammar ExprWithSpot) (x : Token) (s : List Token) (a : ExprWithSpot) (n m : List Token) (b : ExprWithSpot) (r : List Token)
    → DerivesTree g s a n → n ≡ x ∷ m → ops (terminal_of x) ≡ true → DerivesTree g m b r
    → DerivesTree (ranked ops g) s (with_spot a.spot (Binary (operator_of x) a.tree b.tree)) r
two ops g x s a n m b r ha e q hb = (
  (a, (operator_of x, b) ∷ []),
  (
    n,
    None,
    None,
    ha,
    (r, None, None, (m, None, None, (x, ((e, q), refl), refl), hb, refl), (refl, refl), refl),
    refl,
  ),
  refl,
)

-- The ranks of operators, the tightest binding first.
abbrev Ranks : Type 0
Ranks = List (Terminal → Bool)

abbrev all_ranks : Ranks
all_ranks = is_product ∷ is_sum ∷ is_relation ∷ is_equality ∷ is_conjunction ∷ is_disjunction ∷ []

-- expressions with operators of these ranks
abbrev ranked_by : Ranks → Grammar ExprWithSpot → Grammar ExprWithSpot
ranked_by [] g = g
ranked_by (ops ∷ ranks) g = ranked_by ranks (ranked ops g)

all_ranked : ranked_by all_ranks (unary Class) ≡ disjunction Class
unfolding product sum relation equality conjunction disjunction
all_ranked = refl

-- An operand alone is an expression of each rank.
climb : (ranks : Ranks) (g : Grammar ExprWithSpot) (s : List Token) (p : ExprWithSpot) (r : List Token)
    → DerivesTree g s p r → DerivesTree (ranked_by ranks g) s p r
climb [] g s p r h = h
climb (ops ∷ ranks) g s p r h = climb ranks (ranked ops g) s p r (alone ops g s p r h)

-- Two operands with an operator of a rank between them are an expression of that rank and of each rank above.
at_rank : (lower : Ranks) (ops : Terminal → Bool) (upper : Ranks) (g : Grammar ExprWithSpot) (x : Token)
    (s : List Token) (a : ExprWithSpot) (n m : List Token) (b : ExprWithSpot) (r : List Token)
    → DerivesTree g s a n → n ≡ x ∷ m → ops (terminal_of x) ≡ true → DerivesTree g m b r
    → DerivesTree (ranked_by (lower ++ ops ∷ upper) g) s (with_spot a.spot (Binary (operator_of x) a.tree b.tree)) r
at_rank [] ops upper g x s a n m b r ha e q hb = climb upper (ranked ops g) s _ r (two ops g x s a n m b r ha e q hb)
at_rank (rank ∷ lower) ops upper g x s a n m b r ha e q hb = at_rank lower ops upper (ranked rank g) x s a n m b r
    (alone rank g s a n ha) e q (alone rank g m b r hb)

disjunction_derives : (s : List Token) (p : ExprWithSpot) (r : List Token)
    → DerivesTree (ranked_by all_ranks (unary Class)) s p r → DerivesTree (disjunction Class) s p r
disjunction_derives s p r h = subst (λ g. DerivesTree g s p r) all_ranked h

expr_derives : (s : List Token) (p : ExprWithSpot) (r : List Token) → DerivesTree (disjunction Class) s p r → DerivesTree (expr Class) s p r
unfolding expr
expr_derives s p r h = ((p, None), (r, None, None, h, (refl, refl), refl), refl)

-- An operand alone is an expression of every rank.
pub up : (s : List Token) (p : ExprWithSpot) (r : List Token) → DerivesTree (unary Class) s p r → DerivesTree (disjunction Class) s p r
up s p r h = disjunction_derives s p r (climb all_ranks (unary Class) s p r h)

pub up_expr : (s : List Token) (p : ExprWithSpot) (r : List Token) → DerivesTree (unary Class) s p r → DerivesTree (expr Class) s p r
up_expr s p r h = expr_derives s p r (up s p r h)

name_expr : (s : List Token) (p : ExprWithSpot) (r : List Token) → DerivesTree (expr Class) s p r → Derived productions (an_expr Class) s p None r
unfolding productions
name_expr s p r h = named productions (an_expr Class) s p None r h

name_unary : (s : List Token) (p : ExprWithSpot) (r : List Token) → DerivesTree (unary Class) s p r → Derived productions (a_unary Class) s p None r
unfolding productions
name_unary s p r h = named productions (a_unary Class) s p None r h

-- ---- two operands

module _ (x : Token) (s : List Token) (a : ExprWithSpot) (n m : List Token) (b : ExprWithSpot) (r : List Token)
    (e : n ≡ x ∷ m) (ha : DerivesTree (unary Class) s a n) (hb : DerivesTree (unary Class) m b r) where
  -- Both operands with the operator between them derive an expression.
  abbrev Both : Type 0
  Both = DerivesTree (expr Class) s (with_spot a.spot (Binary (operator_of x) a.tree b.tree)) r

  by_rank : (lower : Ranks) (ops : Terminal → Bool) (upper : Ranks) → lower ++ ops ∷ upper ≡ all_ranks → ops (terminal_of x) ≡ true → Both
  by_rank lower ops upper all q =
      let tree = with_spot a.spot (Binary (operator_of x) a.tree b.tree) in
      expr_derives s tree r
      (disjunction_derives s tree r (subst (λ ranks. DerivesTree (ranked_by ranks (unary Class)) s tree r) all
      (at_rank lower ops upper (unary Class) x s a n m b r ha e q hb)))

  by_product : is_product (terminal_of x) ≡ true → Both
  by_product q = by_rank [] is_product (is_sum ∷ is_relation ∷ is_equality ∷ is_conjunction ∷ is_disjunction ∷ []) refl q

  by_sum : is_sum (terminal_of x) ≡ true → Both
  by_sum q = by_rank (is_product ∷ []) is_sum (is_relation ∷ is_equality ∷ is_conjunction ∷ is_disjunction ∷ []) refl q

  by_relation : is_relation (terminal_of x) ≡ true → Both
  by_relation q = by_rank (is_product ∷ is_sum ∷ []) is_relation (is_equality ∷ is_conjunction ∷ is_disjunction ∷ []) refl q

  by_equality : is_equality (terminal_of x) ≡ true → Both
  by_equality q = by_rank (is_product ∷ is_sum ∷ is_relation ∷ []) is_equality (is_conjunction ∷ is_disjunction ∷ []) refl q

  by_conjunction : is_conjunction (terminal_of x) ≡ true → Both
  by_conjunction q = by_rank (is_product ∷ is_sum ∷ is_relation ∷ is_equality ∷ []) is_conjunction (is_disjunction ∷ []) refl q

  by_disjunction : is_disjunction (terminal_of x) ≡ true → Both
  by_disjunction q = by_rank (is_product ∷ is_sum ∷ is_relation ∷ is_equality ∷ is_conjunction ∷ []) is_disjunction [] refl q

  -- What a test says of the word's terminal, it says of the token's.
  along : (o : BinOp) → IsLike x (print.operator o) → (q : Terminal → Bool) → q (terminal_at (print.operator o)) ≡ true → q (terminal_of x) ≡ true
  along o like q t = ap q (like_terminal x (print.operator o) like) ∙ t

  both_derives : (o : BinOp) → IsLike x (print.operator o) → Both
  unfolding words marks
  both_derives bin.Add h = by_sum (along bin.Add h is_sum refl)
  both_derives bin.Sub h = by_sum (along bin.Sub h is_sum refl)
  both_derives bin.Mul h = by_product (along bin.Mul h is_product refl)
  both_derives bin.Div h = by_product (along bin.Div h is_product refl)
  both_derives bin.Rem h = by_product (along bin.Rem h is_product refl)
  both_derives bin.Eq h = by_equality (along bin.Eq h is_equality refl)
  both_derives bin.Ne h = by_equality (along bin.Ne h is_equality refl)
  both_derives bin.Lt h = by_relation (along bin.Lt h is_relation refl)
  both_derives bin.Le h = by_relation (along bin.Le h is_relation refl)
  both_derives bin.Gt h = by_relation (along bin.Gt h is_relation refl)
  both_derives bin.Ge h = by_relation (along bin.Ge h is_relation refl)
  both_derives bin.And h = by_conjunction (along bin.And h is_conjunction refl)
  both_derives bin.Or h = by_disjunction (along bin.Or h is_disjunction refl)

-- The spelling of an operator is read as that operator.
operator_back : (o : BinOp) (x : Token) → IsLike x (print.operator o) → operator_of x ≡ o
unfolding words marks
operator_back o x h = ap operator_by (like_terminal x (print.operator o) h) ∙ go o
  where
    go : (p : BinOp) → operator_by (terminal_at (print.operator p)) ≡ p
    go bin.Add = refl
    go bin.Sub = refl
    go bin.Mul = refl
    go bin.Div = refl
    go bin.Rem = refl
    go bin.Eq = refl
    go bin.Ne = refl
    go bin.Lt = refl
    go bin.Le = refl
    go bin.Gt = refl
    go bin.Ge = refl
    go bin.And = refl
    go bin.Or = refl

sign_back : (o : UnOp) (x : Token) → IsLike x (print.sign o) → sign_by (terminal_of x) ≡ o
unfolding words marks
sign_back o x h = ap sign_by (like_terminal x (print.sign o) h) ∙ go o
  where
    go : (p : UnOp) → sign_by (terminal_at (print.sign p)) ≡ p
    go un.Neg = refl
    go un.Not = refl

is_sign_of : (o : UnOp) → is_sign (terminal_at (print.sign o)) ≡ true
unfolding words marks
is_sign_of un.Neg = refl
is_sign_of un.Not = refl

pub left_paren : is terminal.LeftParen (terminal_at (codes "(")) ≡ true
unfolding words marks
left_paren = refl

pub right_paren : is terminal.RightParen (terminal_at (codes ")")) ≡ true
unfolding words marks
right_paren = refl

pub question : is terminal.Question (terminal_at (codes "?")) ≡ true
unfolding words marks
question = refl

pub colon : is terminal.Colon (terminal_at (codes ":")) ≡ true
unfolding words marks
colon = refl

-- ---- operands

-- An expression in parentheses.
in_parens : (x y : Token) (s m : List Token) (p : ExprWithSpot) (n l r : List Token) → s ≡ x ∷ m → IsLike x (codes "(")
    → DerivesTree (expr Class) m p n → n ≡ y ∷ l → IsLike y (codes ")") → l ≡ r
    → DerivesTree (unary Class) s (with_spot x.spot p.tree) r
unfolding unary parens
in_parens x y s m p n l r e left h k right last =
    inr (inr (inr (
      ((x, p), y),
      (
        n,
        None,
        None,
        (
          m,
          None,
          is_one (is terminal.LeftParen) (codes "(") left_paren x s m e
              left,
          name_expr m p n h,
          refl,
        ),
        (
          is_one (is terminal.RightParen) (codes ")") right_paren y n r
              (k ∙ ap (λ (w : List Token). y ∷ w) last) right,
          refl,
        ),
        refl,
      ),
      refl,
    )))

-- A prefix operator and its operand.
with_sign : (o : UnOp) (x : Token) (s m : List Token) (p : ExprWithSpot) (r : List Token) → s ≡ x ∷ m
    → IsLike x (print.sign o) → DerivesTree (unary Class) m p r
    → DerivesTree (unary Class) s (with_spot x.spot (Unary (sign_by (terminal_of x)) p.tree x.spot)) r
unfolding unary signed
with_sign o x s m p r e like h = inl ((x, p), (m, None, is_one is_sign (print.sign o) (is_sign_of o) x s m e like, name_unary m p r h, refl), refl)

-- A choice between two expressions.
three : (c : ExprWithSpot) (s k m : List Token) (a : ExprWithSpot) (l n : List Token) (b : ExprWithSpot) (r : List Token) (x y : Token)
    → DerivesTree (unary Class) s c k → k ≡ x ∷ m → IsLike x (codes "?") → DerivesTree (unary Class) m a l → l ≡ y ∷ n
    → IsLike y (codes ":") → DerivesTree (unary Class) n b r
    → DerivesTree (expr Class) s (with_spot c.spot (Choose c.tree a.tree b.tree)) r
unfolding expr branches
three c s k m a l n b r x y hc e ask ha f other hb = (
  (c, Some (a, b)),
  (
    k,
    None,
    None,
    up s c k hc,
    (
      l,
      None,
      None,
      ((x, a), (m, None, is_one (is terminal.Question) (codes "?") question x k m e ask, name_expr m a l (up_expr m a l ha), refl), refl),
      ((y, b), (n, None, is_one (is terminal.Colon) (codes ":") colon y l n f other, name_expr n b r (up_expr n b r hb), refl), refl),
      refl,
    ),
    refl,
  ),
  refl,
)

-- The tokens derive a tree that is this expression but for spots.
pub record HasTree (e : Expression) (s r : List Token) : Type 0 where
  pub tree : ExprWithSpot
  pub derives : DerivesTree (unary Class) s tree r
  pub like : same.expression tree.tree ≡ same.expression e

number_has_tree : (z : ℤ) (spot : Spot) → IsNumber z → (s r : List Token) → Reads (token (signed_decimal z) ∷ []) s r → HasTree (Num z spot) s r
unfolding unary number
number_has_tree z spot formed s r h =
    let x = h.0 in
    let facts = number_facts z formed in
    let start : s ≡ x ∷ r = h.2 ∙ ap (λ (w : List Token). x ∷ w) h.4 in
    let good : is_number x.text ≡ true = ap is_number h.3.1 ∙ facts.good in
    record {
      tree = number_at x;
      derives = inr (inl (
        x,
        (
          is_one (is terminal.Number) (signed_decimal z) facts.terminal x s r start h.3,
          sym
              (ap (λ (b : Bool). bad_unless b BadNumber) good),
        ),
        refl,
      ));
      like = ap (λ (w : List ℕ). same.expression (Num (pos (decimal w)) nowhere)) h.3.1 ∙ ap (λ (v : ℤ). same.expression (Num v nowhere)) facts.value;
    }

name_has_tree : (w : Word) → IsName w.text → (s r : List Token) → Reads (token w.text ∷ []) s r → HasTree (Name w) s r
unfolding unary reference
name_has_tree w formed s r h =
    let x = h.0 in
    let start : s ≡ x ∷ r = h.2 ∙ ap (λ (l : List Token). x ∷ l) h.4 in
    record {
      tree = name_alone (word_of x);
      derives = inr (inr (inl (word_of x, (x, (is_one (names Class) w.text formed.1 x s r start h.3, refl), refl), refl)));
      like = ap (λ (t : List ℕ). Name (record { text = t; spot = nowhere })) h.3.1;
    }

-- The tokens of an expression's spelling derive it.
pub has_tree : (e : Expression) → IsWellFormed e → (s r : List Token) → Reads (print.expression e) s r → HasTree e s r
has_tree (Num z spot) formed s r h = number_has_tree z spot formed s r h
has_tree (Name w) formed s r h = name_has_tree w formed s r h
has_tree (Elem w a) formed s r h = absurd formed
has_tree (Unary o a spot) formed s r h =
    let x = h.0 in
    let sign = h.4.0 in
    let split = reads_both (print.expression a) (token (codes ")") ∷ []) h.4.1 r h.4.4 in
    let k = has_tree a formed h.4.1 split.0 split.1 in
    let y = split.2.0 in
    let inner_derives = with_sign o sign h.1 h.4.1 k.tree split.0 h.4.2 h.4.3 k.derives in
    record {
      tree = with_spot x.spot (Unary (sign_by (terminal_of sign)) k.tree.tree sign.spot);
      derives = in_parens x y s h.1 (with_spot sign.spot (Unary (sign_by (terminal_of sign)) k.tree.tree sign.spot))
          split.0 split.2.1 r h.2 h.3 (up_expr h.1 _ split.0 inner_derives) split.2.2 split.2.3 split.2.4;
      like = ap (λ (p : UnOp). Unary p (same.expression k.tree.tree) nowhere) (sign_back o sign h.4.3) ∙ ap (λ (t : Expression). Unary o t nowhere) k.like;
    }
has_tree (Binary o a b) formed s r h =
    let x = h.0 in
    let outer = reads_both (print.expression a ++ (between (print.operator o) ++ print.expression b)) (token (codes ")") ∷ []) h.1 r h.4 in
    let first = reads_both (print.expression a) (between (print.operator o) ++ print.expression b) h.1 outer.0 outer.1 in
    let ka = has_tree a formed.0 h.1 first.0 first.1 in
    let sign = first.2.0 in
    let kb = has_tree b formed.1 first.2.1 outer.0 first.2.4 in
    let y = outer.2.0 in
    let both = both_derives sign h.1 ka.tree first.0 first.2.1 kb.tree outer.0 first.2.2 ka.derives kb.derives o first.2.3 in
    record {
      tree = with_spot x.spot (Binary (operator_of sign) ka.tree.tree kb.tree.tree);
      derives = in_parens x y s h.1 (with_spot ka.tree.spot (Binary (operator_of sign) ka.tree.tree kb.tree.tree))
          outer.0 outer.2.1 r h.2 h.3 both outer.2.2 outer.2.3 outer.2.4;
      like = ap (λ (p : BinOp). Binary p (same.expression ka.tree.tree) (same.expression kb.tree.tree)) (operator_back o sign first.2.3)
          ∙ ap (λ (t : Expression). Binary o t (same.expression kb.tree.tree)) ka.like ∙ ap (λ (t : Expression). Binary o (same.expression a) t) kb.like;
    }
has_tree (Choose c a b) formed s r h =
    let x = h.0 in
    let tail = between (codes ":") ++ print.expression b in
    let middle = between (codes "?") ++ (print.expression a ++ tail) in
    let outer = reads_both (print.expression c ++ middle) (token (codes ")") ∷ []) h.1 r h.4 in
    let first = reads_both (print.expression c) middle h.1 outer.0 outer.1 in
    let second = reads_both (print.expression a) tail first.2.1 outer.0 first.2.4 in
    let kc = has_tree c formed.0 h.1 first.0 first.1 in
    let ka = has_tree a formed.1 first.2.1 second.0 second.1 in
    let kb = has_tree b formed.2 second.2.1 outer.0 second.2.4 in
    let y = outer.2.0 in
    let all = three kc.tree h.1 first.0 first.2.1 ka.tree second.0 second.2.1 kb.tree outer.0 first.2.0 second.2.0
    kc.derives first.2.2 first.2.3 ka.derives second.2.2 second.2.3 kb.derives in
    record {
      tree = with_spot x.spot (Choose kc.tree.tree ka.tree.tree kb.tree.tree);
      derives = in_parens x y s h.1 (with_spot kc.tree.spot (Choose kc.tree.tree ka.tree.tree kb.tree.tree)) outer.0
          outer.2.1 r h.2 h.3 all outer.2.2 outer.2.3 outer.2.4;
      like = ap (λ (t : Expression). Choose t (same.expression ka.tree.tree) (same.expression kb.tree.tree)) kc.like
          ∙ ap (λ (t : Expression). Choose (same.expression c) t (same.expression kb.tree.tree)) ka.like
          ∙ ap (λ (t : Expression). Choose (same.expression c) (same.expression a) t) kb.like;
    }
