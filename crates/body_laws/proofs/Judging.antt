-- Judged by their tokens, the names of an expression have the fault of its tree.
use Rattle.std.proofs.Common.{◌≡◌, ℕ, zero, suc, Bool, true, false, List, [], ◌∷◌, Ok, Err, refl, sym, ap, ◌∙◌, subst, inl, inr}
use Rattle.std.specs.Prelude.{Option, Some, None}
use Rattle.grammar_core.specs.declared.token.Spot.{Spot}
use Rattle.grammar_core.specs.declared.token.Token.{Token}
use Rattle.jdf_lex.specs.declared.terminal.Terminal.{Terminal}
use Rattle.jdf_lex.specs.declared.terminal.Terminal.TheVariants as terminal
use Rattle.grammar_core.specs.Production.{seq, map, opt, Fault, Language, Many, Derives, DerivedWithin, Derived}
use Rattle.jdf_lex.specs.Sets.{one_of, starts}
use Rattle.jdf_lex.specs.Terminals.{terminal_of, is}
use Rattle.text_laws.proofs.CallerLemmas.{are_disjoint, disjoint_at}
use Rattle.term_core.specs.declared.operator.BinOp.{BinOp}
use Rattle.term_core.specs.Term.{Term}
use Rattle.term_core.specs.Term as term
use Rattle.ptg_base.specs.Returns.{and_then}
use Rattle.jdf_tree.specs.declared.expression.ExprWithSpot.{ExprWithSpot}
use Rattle.jdf_tree.specs.declared.expression.Word.{Word}
use Rattle.jdf_tree.specs.declared.part.Part.TheVariants.{Body}
use Rattle.jdf_tree.specs.Expression.{Expression, Name, Elem, Unary, Binary, Choose}
use Rattle.jdf_tree.specs.ExpressionGrammar.{number, number_at, parens, index, reference, named, signed, signed_of}
use Rattle.jdf_tree.specs.ExpressionGrammar.{is_sign, sign_by, unary, product, sum, relation, equality, conjunction}
use Rattle.jdf_tree.specs.ExpressionGrammar.{disjunction, is_product, is_sum, is_relation, is_equality, is_conjunction}
use Rattle.jdf_tree.specs.ExpressionGrammar.{is_disjunction, branches, chosen, expr, outer, ranked, grouped}
use Rattle.jdf_tree.specs.ExpressionGrammar.{operator_of}
use Rattle.jdf_tree.specs.Grammar.{productions}
use Rattle.jdf_tree.specs.Nonterminal.{Nonterminal, an_expr, a_unary, TreeOf, Grammar}
use Rattle.jdf_tree.specs.GrammarParts.{any, name, word_of}
use Rattle.body_lang.specs.Environment.{Environment}
use Rattle.body_lang.specs.declared.variable.Variable.{Variable}
use Rattle.body_lang.specs.Meanings.{meaning_of}
use Rattle.expr_names.specs.Symbols.{Resolved}
use Rattle.expr_names.specs.Expressions.{together}
use Rattle.body_lang.specs.Expressions.{value_of, read_flow, term_of}
use Rattle.body_lang.specs.TokenScan.{fault_of}
use Rattle.body_laws.proofs.Along.{Judges, faultless, same_verdict, same_rest, then_judges, token_then, then_token}
use Rattle.body_laws.proofs.Along.{quiet_judges, value_judges, element_judges, after_after, is_quiet}

-- no index follows
abbrev pub NoIndex : List Token → Type 0
NoIndex r = starts (is terminal.LeftBracket) r ≡ false

-- no index follows if the next token is no bracket
pub no_index : (q : Terminal → Bool) (s r : List Token) (x : Token) → are_disjoint q (is terminal.LeftBracket) ≡ true
    → s ≡ x ∷ r → q (terminal_of x) ≡ true → NoIndex s
no_index q s r x d e h = subst (λ (l : List Token). NoIndex l) (sym e) (disjoint_at q (is terminal.LeftBracket) d (terminal_of x) h)

abbrev pub negated : Bool → Bool
negated true = false
negated false = true

-- a name, or a token after which a statement or a declaration may begin
abbrev pub is_loud : Terminal → Bool
is_loud k = negated (is_quiet k)

-- tokens of terminals that are not loud are quiet
pub within_quiet : (q : Terminal → Bool) → are_disjoint q is_loud ≡ true → (k : Terminal) → q k ≡ true → is_quiet k ≡ true
within_quiet q d k h = go (is_quiet k) (disjoint_at q is_loud d k h)
  where
    go : (b : Bool) → negated b ≡ false → b ≡ true
    go true e = refl
    go false e = absurd cc

module _ (scope : Environment) where
  -- the fault of an expression, if it has one
  abbrev pub fault : Expression → List Variable → Resolved (Unit {0})
  fault e seen = fault_of (term_of scope seen e)

  abbrev pub JudgesBy : {A : Type 0} → Language A → (A → List Variable → Resolved (Unit {0})) → Type 0
  JudgesBy {A = A} G V = (s : List Token) (t : A) (o : Fault) (r : List Token) → G s t o r → NoIndex r → Judges scope s r (V t)

  -- ---- what a fault consists of

  -- an operation that cannot fail adds no fault
  pub of_fault : {A B : Type 0} (r : Resolved A) (f : A → B) → fault_of r ≡ fault_of (and_then r (λ x. Ok (f x)))
  of_fault (Ok x) f = refl
  of_fault (Err e) f = refl

  -- the fault of two parts, one after the other
  pair_fault : {A B : Type 0} (r : Resolved A) (q : Resolved B) → and_then (fault_of r) (λ _. fault_of q) ≡ fault_of (together (λ first _. first) r q)
  pair_fault (Ok x) (Ok y) = refl
  pair_fault (Ok x) (Err e) = refl
  pair_fault (Err e) (Ok y) = refl
  pair_fault (Err e) (Err f) = refl

  pub unary_fault : (o : _) (e : Expression) (spot : Spot) (seen : List Variable) → fault e seen ≡ fault (Unary o e spot) seen
  unary_fault o e spot seen = of_fault (term_of scope seen e) (term.Unary o)

  pub binary_fault : (o : BinOp) (a b : Expression) (seen : List Variable) → and_then (fault a seen) (λ _. fault b seen) ≡ fault (Binary o a b) seen
  binary_fault o a b seen = pair_fault (term_of scope seen a) (term_of scope seen b)
      ∙ of_fault (together (λ first _. first) (term_of scope seen a) (term_of scope seen b))
      (λ (x : Term × Term). term.Binary o x.0 x.1)

  pub choose_fault : (c a b : Expression) (seen : List Variable)
      → and_then (fault c seen) (λ _. and_then (fault a seen) (λ _. fault b seen)) ≡ fault (Choose c a b) seen
  choose_fault c a b seen =
      let branches = together (λ first _. first) (term_of scope seen a) (term_of scope seen b) in
      ap (λ (v : Resolved (Unit {0})). and_then (fault c seen) (λ _. v)) (pair_fault (term_of scope seen a) (term_of scope seen b))
      ∙ (pair_fault (term_of scope seen c) branches
      ∙ of_fault (together (λ first _. first) (term_of scope seen c) branches) (λ (x : Term × (Term × Term)). term.Choose x.0 x.1.0 x.1.1))

  pub elem_fault : (w : Word) (e : Expression) (seen : List Variable) → and_then (fault_of (read_flow scope w)) (λ _. fault e seen) ≡ fault (Elem w e) seen
  elem_fault w e seen = pair_fault (read_flow scope w) (term_of scope seen e)
      ∙ of_fault (together (λ first _. first) (read_flow scope w) (term_of scope seen e))
      (λ (x : ℕ × Term). term.Elem x.0 x.1)

  -- the first fault of operands with operators between them
  abbrev faults : List (BinOp × ExprWithSpot) → List Variable → Resolved (Unit {0})
  faults [] seen = Ok tt
  faults (x ∷ xs) seen = and_then (fault x.1.tree seen) (λ _. faults xs seen)

  grouped_fault : (xs : List (BinOp × ExprWithSpot)) (a : Expression) (seen : List Variable)
      → and_then (fault a seen) (λ _. faults xs seen) ≡ fault (grouped a xs) seen
  grouped_fault [] a seen = go (term_of scope seen a)
    where
      go : (r : Resolved Term) → and_then (fault_of r) (λ _. Ok tt) ≡ fault_of r
      go (Ok x) = refl
      go (Err f) = refl
  grouped_fault (x ∷ xs) a seen =
      sym (after_after (fault a seen) (λ _. fault x.1.tree seen) (λ _. faults xs seen))
      ∙ (ap (λ (v : Resolved (Unit {0})). and_then v (λ _. faults xs seen)) (binary_fault x.0 a x.1.tree seen) ∙ grouped_fault xs (Binary x.0 a x.1.tree) seen)

  -- ---- the forms of an expression, whose names are judged inside

  module _ (R : (n : Nonterminal) → Language (TreeOf n)) (E : JudgesBy (R (an_expr Body)) (λ t. fault t.tree))
      (U : JudgesBy (R (a_unary Body)) (λ t. fault t.tree)) where
    number_judges : JudgesBy (Derives R number) (λ t. fault t.tree)
    unfolding number
    number_judges s t o r h n =
        subst (λ (t : ExprWithSpot). Judges scope s r (fault t.tree)) h.2
        (same_verdict scope s r faultless (fault (number_at h.0).tree) (λ seen. refl)
        (quiet_judges scope s r h.0 h.1.0.0 (within_quiet (is terminal.Number) refl (terminal_of h.0) h.1.0.1)))

    -- an expression between two marks
    between : (first last : Terminal → Bool) → are_disjoint first is_loud ≡ true → are_disjoint last is_loud ≡ true
        → are_disjoint last (is terminal.LeftBracket) ≡ true
        → (s m p r : List Token) (x y : Token) (t : ExprWithSpot) (o : Fault)
        → s ≡ x ∷ m → first (terminal_of x) ≡ true → R (an_expr Body) m t o p → p ≡ y ∷ r → last (terminal_of y) ≡ true → Judges scope s r (fault t.tree)
    between first last a b c s m p r x y t o e f h k l =
        token_then scope s m r x (fault t.tree) e (within_quiet first a (terminal_of x) f)
        (then_token scope m p r y (fault t.tree) k (within_quiet last b (terminal_of y) l) (E m t o p h (no_index last p r y c k l)))

    parens_judges : JudgesBy (Derives R (parens Body)) (λ t. fault t.tree)
    unfolding parens
    parens_judges s t o r h n =
        let both = h.1 in let front = both.3 in let back = both.4 in
        subst (λ (t : ExprWithSpot). Judges scope s r (fault t.tree)) h.2
        (between (is terminal.LeftParen) (is terminal.RightParen) refl refl refl s front.0 both.0 r h.0.0.0 h.0.1
        h.0.0.1 front.1 front.2.0 front.2.1 front.3 back.0.0 back.0.1)

    index_judges : JudgesBy (Derives R index) (λ t. fault t.tree)
    unfolding index
    index_judges s t o r h n =
        let both = h.1 in let front = both.3.1 in let back = both.4 in
        let tree : h.0.0 ≡ t = h.2 in
        let inside : both.3.0.1 ≡ h.0.0 = both.3.2 in
        subst (λ (t : ExprWithSpot). Judges scope s r (fault t.tree)) (inside ∙ tree)
        (between (is terminal.LeftBracket) (is terminal.RightBracket) refl refl refl s front.0 both.0 r both.3.0.0 h.0.1
        both.3.0.1 front.1 front.2.0 front.2.1 front.3 back.0.0 back.0.1)

    -- a name alone, or an element
    reference_judges : JudgesBy (Derives R (reference Body)) (λ t. fault t.tree)
    unfolding reference index
    reference_judges s t o r h n = subst (λ (t : ExprWithSpot). Judges scope s r (fault t.tree)) h.2 (by_index h.0.0 h.0.1 h.1)
      where
        by_index : (w : Word) (i : Option ExprWithSpot) → Derives R (seq (name Body) (opt index)) s (w, i) o r → Judges scope s r (fault (named (w, i)).tree)
        by_index w None k =
            let word = k.3 in
            let rest : k.0 ≡ r = k.4.0 in
            let no : NoIndex k.0 = subst (λ (l : List Token). NoIndex l) (sym rest) n in
            let whole = same_rest scope s k.0 r (λ seen. fault_of
            (value_of (word_of word.0) (meaning_of scope seen word.0.text))) rest
            (value_judges scope s k.0 word.0 word.1.0.0 word.1.0.1 no) in
            subst (λ (w : Word). Judges scope s r (fault (Name w))) word.2 whole
        by_index w (Some at) k =
            let word = k.3 in
            let inside = index_judges k.0 at k.2 r k.4 n in
            let front = k.4.1.3.1 in
            let starts_so : starts (is terminal.LeftBracket) k.0 ≡ true = subst
            (λ (l : List Token). starts (is terminal.LeftBracket) l ≡ true) (sym front.2.0) front.2.1 in
            let whole = then_judges scope s k.0 r (λ seen. fault_of (read_flow scope (word_of word.0))) (fault at.tree)
            (element_judges scope s k.0 word.0 word.1.0.0 word.1.0.1 starts_so) inside in
            subst (λ (w : Word). Judges scope s r (fault (Elem w at.tree))) word.2
            (same_verdict scope s r (λ seen. and_then (fault_of (read_flow scope (word_of word.0)))
            (λ _. fault at.tree seen)) (fault (Elem (word_of word.0) at.tree)) (elem_fault (word_of word.0) at.tree)
            whole)

    signed_judges : JudgesBy (Derives R (signed Body)) (λ t. fault t.tree)
    unfolding signed
    signed_judges s t o r h n =
        let k = h.1 in
        subst (λ (t : ExprWithSpot). Judges scope s r (fault t.tree)) h.2
        (same_verdict scope s r (fault h.0.1.tree) (fault (signed_of h.0).tree) (unary_fault (sign_by (terminal_of h.0.0)) h.0.1.tree h.0.0.spot)
        (token_then scope s k.0 r h.0.0 (fault h.0.1.tree) k.2.0 (within_quiet is_sign refl (terminal_of h.0.0) k.2.1) (U k.0 h.0.1 k.1 r k.3 n)))

    unary_judges : JudgesBy (Derives R (unary Body)) (λ t. fault t.tree)
    unfolding unary
    unary_judges s t o r h n = elim h [
      | inl u ↦ signed_judges s t o r u n
      | inr u ↦ elim u [
        | inl v ↦ number_judges s t o r v n
        | inr v ↦ elim v [ inl w ↦ reference_judges s t o r w n | inr w ↦ parens_judges s t o r w n ]
      ]
    ]

    -- ---- operands with operators between them

    module _ (ops : Terminal → Bool) (quiet : are_disjoint ops is_loud ≡ true)
        (apart : are_disjoint ops (is terminal.LeftBracket) ≡ true) (operand : Grammar ExprWithSpot)
        (O : JudgesBy (Derives R operand) (λ t. fault t.tree)) where
      abbrev operation : Grammar (BinOp × ExprWithSpot)
      operation = seq (map operator_of (one_of ops)) operand

      abbrev Operations : List (BinOp × ExprWithSpot) → ℕ → List Token → Fault → List Token → Type 0
      Operations xs i s o r = Many any (Derives R operation) i s xs o r

      no_index_after : (xs : List (BinOp × ExprWithSpot)) (i : ℕ) (s : List Token) (o : Fault) (r : List Token) → Operations xs i s o r → NoIndex r → NoIndex s
      no_index_after [] i s o r h n = subst (λ (l : List Token). NoIndex l) (sym h.0) n
      no_index_after (x ∷ xs) i s o r h n = let mark = h.3.3 in no_index ops s h.3.0 mark.0 apart mark.1.0.0 mark.1.0.1

      operations_judge : (xs : List (BinOp × ExprWithSpot)) (i : ℕ) (start s : List Token)
          (V : List Variable → Resolved (Unit {0})) (o : Fault) (r : List Token) → Operations xs i s o r → NoIndex r
          → Judges scope start s V → Judges scope start r (λ seen. and_then (V seen) (λ _. faults xs seen))
      operations_judge [] i start s V o r h n j = same_rest scope start s r
          (λ seen. and_then (V seen) (λ _. faults [] seen)) h.0
          (same_verdict scope start s V (λ seen. and_then (V seen) (λ _. faults [] seen))
          (λ seen. nothing_more (V seen)) j)
        where
          nothing_more : (v : Resolved (Unit {0})) → v ≡ and_then v (λ _. Ok tt)
          nothing_more (Ok x) = refl
          nothing_more (Err e) = refl
      operations_judge (x ∷ xs) i start s V o r h n j =
          let op = h.3 in
          let mark = op.3 in
          let no = no_index_after xs (suc i) h.0 h.2 r h.4 n in
          let past_mark = then_token scope start s op.0 mark.0 V mark.1.0.0 (within_quiet ops quiet (terminal_of mark.0) mark.1.0.1) j in
          let past_operand = then_judges scope start op.0 h.0 V (fault x.1.tree) past_mark (O op.0 x.1 op.2 h.0 op.4 no) in
          let later = operations_judge xs (suc i) start h.0 (λ seen. and_then (V seen) (λ _. fault x.1.tree seen)) h.2 r h.4 n past_operand in
          same_verdict scope start r (λ seen. and_then (and_then (V seen) (λ _. fault x.1.tree seen))
          (λ _. faults xs seen)) (λ seen. and_then (V seen) (λ _. faults (x ∷ xs) seen))
          (λ seen. after_after (V seen) (λ _. fault x.1.tree seen) (λ _. faults xs seen)) later

      ranked_judges : JudgesBy (Derives R (ranked ops operand)) (λ t. fault t.tree)
      ranked_judges s t o r h n =
          let k = h.1 in
          let first = h.0.0 in
          let xs = h.0.1 in
          let no = no_index_after xs 0 k.0 k.2 r k.4 n in
          subst (λ (t : ExprWithSpot). Judges scope s r (fault t.tree)) h.2
          (same_verdict scope s r (λ seen. and_then (fault first.tree seen) (λ _. faults xs seen)) (fault (grouped first.tree xs)) (grouped_fault xs first.tree)
          (operations_judge xs 0 s k.0 (fault first.tree) k.2 r k.4 n (O s first k.1 k.0 k.3 no)))

    product_judges : JudgesBy (Derives R (product Body)) (λ t. fault t.tree)
    unfolding product
    product_judges = ranked_judges is_product refl refl (unary Body) unary_judges

    sum_judges : JudgesBy (Derives R (sum Body)) (λ t. fault t.tree)
    unfolding sum
    sum_judges = ranked_judges is_sum refl refl (product Body) product_judges

    relation_judges : JudgesBy (Derives R (relation Body)) (λ t. fault t.tree)
    unfolding relation
    relation_judges = ranked_judges is_relation refl refl (sum Body) sum_judges

    equality_judges : JudgesBy (Derives R (equality Body)) (λ t. fault t.tree)
    unfolding equality
    equality_judges = ranked_judges is_equality refl refl (relation Body) relation_judges

    conjunction_judges : JudgesBy (Derives R (conjunction Body)) (λ t. fault t.tree)
    unfolding conjunction
    conjunction_judges = ranked_judges is_conjunction refl refl (equality Body) equality_judges

    disjunction_judges : JudgesBy (Derives R (disjunction Body)) (λ t. fault t.tree)
    unfolding disjunction
    disjunction_judges = ranked_judges is_disjunction refl refl (conjunction Body) conjunction_judges

    -- ---- choices

    expr_judges : JudgesBy (Derives R (expr Body)) (λ t. fault t.tree)
    unfolding expr branches
    expr_judges s t o r h n = subst (λ (t : ExprWithSpot). Judges scope s r (fault t.tree)) h.2 (by_branches h.0.0 h.0.1 h.1)
      where
        by_branches : (c : ExprWithSpot) (b : Option (ExprWithSpot × ExprWithSpot))
            → Derives R (seq (disjunction Body) (opt (branches Body))) s (c, b) o r
            → Judges scope s r (fault (chosen (c, b)).tree)
        by_branches c None k =
            let rest : k.0 ≡ r = k.4.0 in
            same_rest scope s k.0 r (fault c.tree) rest (disjunction_judges s c k.1 k.0 k.3 (subst (λ (l : List Token). NoIndex l) (sym rest) n))
        by_branches c (Some b) k =
            let both = k.4 in
            let yes_part = both.3.1 in
            let no_part = both.4.1 in
            let first : both.3.0.1 ≡ b.0 = both.3.2 in
            let second : both.4.0.1 ≡ b.1 = both.4.2 in
            let before_mark = no_index (is terminal.Question) k.0 yes_part.0 both.3.0.0 refl yes_part.2.0 yes_part.2.1 in
            let before_colon = no_index (is terminal.Colon) both.0 no_part.0 both.4.0.0 refl no_part.2.0 no_part.2.1 in
            let one = disjunction_judges s c k.1 k.0 k.3 before_mark in
            let past_mark = then_token scope s k.0 yes_part.0 both.3.0.0 (fault c.tree) yes_part.2.0
            (within_quiet (is terminal.Question) refl (terminal_of both.3.0.0) yes_part.2.1) one in
            let a = E yes_part.0 both.3.0.1 yes_part.1 both.0 yes_part.3 before_colon in
            let b' = token_then scope both.0 no_part.0 r both.4.0.0 (fault both.4.0.1.tree) no_part.2.0
            (within_quiet (is terminal.Colon) refl (terminal_of both.4.0.0) no_part.2.1)
            (E no_part.0 both.4.0.1 no_part.1 r no_part.3 n) in
            let all = then_judges scope s yes_part.0 r (fault c.tree)
            (λ seen. and_then (fault both.3.0.1.tree seen) (λ _. fault both.4.0.1.tree seen)) past_mark
            (then_judges scope yes_part.0 both.0 r (fault both.3.0.1.tree) (fault both.4.0.1.tree) a b') in
            let chosen_verdict = same_verdict scope s r (λ seen. and_then (fault c.tree seen)
            (λ _. and_then (fault both.3.0.1.tree seen) (λ _. fault both.4.0.1.tree seen)))
            (fault (Choose c.tree both.3.0.1.tree both.4.0.1.tree))
            (choose_fault c.tree both.3.0.1.tree both.4.0.1.tree) all in
            subst (λ (x : ExprWithSpot). Judges scope s r (fault (Choose c.tree x.tree b.1.tree))) first
            (subst (λ (x : ExprWithSpot). Judges scope s r (fault (Choose c.tree both.3.0.1.tree x.tree))) second
            chosen_verdict)

  -- ---- names of any depth

  pub record Names (R : (n : Nonterminal) → Language (TreeOf n)) : Type 0 where
    pub exprs : JudgesBy (R (an_expr Body)) (λ t. fault t.tree)
    pub unaries : JudgesBy (R (a_unary Body)) (λ t. fault t.tree)

  pub names_at : (k : ℕ) → Names (DerivedWithin productions k)
  unfolding productions
  names_at zero = record { exprs = λ s t o r h n. absurd h; unaries = λ s t o r h n. absurd h }
  names_at (suc k) =
      let m = names_at k in
      record { exprs = expr_judges (DerivedWithin productions k) m.exprs m.unaries; unaries = unary_judges (DerivedWithin productions k) m.exprs m.unaries }

  pub names_judge : Names (Derived productions)
  names_judge =
      record { exprs = λ s t o r d n. (names_at d.depth).exprs s t o r d.derives n; unaries = λ s t o r d n. (names_at d.depth).unaries s t o r d.derives n }

  -- an outermost expression of a body
  pub outer_judges : (R : (n : Nonterminal) → Language (TreeOf n)) → Names R
      → (s : List Token) (t : ExprWithSpot) (o : Fault) (r : List Token) → Derives R (outer Body) s t o r → NoIndex r
      → Judges scope s r (fault t.tree)
  unfolding outer
  outer_judges R m s t o r h n = expr_judges R m.exprs m.unaries s t h.0 r h.1 n
