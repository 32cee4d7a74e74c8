-- Each expression of a text is well formed, and has at most as many names, numbers and operators as counted tokens.
use Rattle.std.proofs.Common.{◌≡◌, ℕ, pos, suc, ◌+◌, ◌≤◌, Bool, true, false, cond, List, [], ◌∷◌, ◌++◌, length, refl}
use Rattle.std.proofs.Common.{sym, ap, subst, ◌∙◌, inl, inr, arith, length-append}
use Rattle.std.specs.Prelude.{Option, Some, None}
use Rattle.grammar_core.specs.declared.token.Token.{Token}
use Rattle.term_core.specs.declared.operator.BinOp.{BinOp}
use Rattle.jdf_lex.specs.declared.terminal.Terminal.{Terminal}
use Rattle.jdf_lex.specs.declared.terminal.Terminal.TheVariants as terminal
use Rattle.jdf_lex.specs.Codes.{BadNumber, ExprTooLong}
use Rattle.jdf_lex.specs.Terminals.{terminal_of, is}
use Rattle.jdf_lex.specs.Counted.{is_name, is_counted}
use Rattle.jdf_lex.specs.Sets.{limit_at, one_of, IsOne}
use Rattle.grammar_core.specs.Production.{map, seq, opt, Fault, Language, Many, Derives, taken, bad_unless}
use Rattle.text_laws.proofs.CallerLemmas.{is_within, within_at}
use Rattle.jdf_tree.specs.declared.expression.Word.{Word}
use Rattle.jdf_tree.specs.declared.expression.ExprWithSpot.{ExprWithSpot}
use Rattle.jdf_tree.specs.declared.part.Part.TheVariants.{Class}
use Rattle.jdf_tree.specs.Expression.{Expression, Binary}
use Rattle.jdf_tree.specs.Numbers.{decimal, is_number}
use Rattle.print_laws.proofs.NumberTexts.{number_parts}
use Rattle.jdf_tree.specs.Nonterminal.{Nonterminal, an_expr, a_unary, TreeOf, Grammar}
use Rattle.jdf_tree.specs.GrammarParts.{any}
use Rattle.jdf_tree.specs.ExpressionGrammar.{name_alone, operator_of, grouped, ranked, is_sign, number, reference}
use Rattle.jdf_tree.specs.ExpressionGrammar.{signed, parens, unary, is_product, is_sum, is_relation, is_equality}
use Rattle.jdf_tree.specs.ExpressionGrammar.{is_conjunction, is_disjunction, product, sum, relation, equality}
use Rattle.jdf_tree.specs.ExpressionGrammar.{conjunction, disjunction, inside, branches, chosen, expr, outer, guard}
use Rattle.print_laws.proofs.Digits.{IsNumber}
use Rattle.print_laws.proofs.Limits.{number_of, fit_few, number_of-append}
use Rattle.print_laws.proofs.Spent.{weight}
use Rattle.print_laws.proofs.Expressions.{IsWellFormed, IsName}
use Rattle.print_laws.proofs.Forms.{Every, IsOuter}
use Rattle.jdf_tree.proofs.CallerLemmas.{both_none, cut_none}
use Rattle.print_laws.proofs.Ends.{IsNone, HasEnd, Shortens, derives_has_end}
use Rattle.print_laws.proofs.Known.{IsKnown, name_known}

-- What holds for each token holds for each of the rest.
every_rest : (P : Token → Type 0) (w r : List Token) → Every P (w ++ r) → Every P r
every_rest P [] r h = h
every_rest P (x ∷ w) r h = every_rest P w r h.1

pub known_rest : (s r : List Token) → HasEnd s r → Every IsKnown s → Every IsKnown r
known_rest s r b h = let K : List Token → Type 0 = λ l. Every IsKnown l in every_rest IsKnown b.0 r (subst K b.1 h)

abbrev counted : List Token → ℕ
counted s = number_of is_counted s

-- A token that counts, and any token.
counts : (q : Terminal → Bool) → is_within q is_counted ≡ true → (s : List Token) (x : Token) (m : List Token) → IsOne q s x m → counted s ≡ 1 + counted m
counts q w s x m h = ap counted h.0 ∙ ap (λ (b : Bool). cond b 1 0 + counted m) (within_at q is_counted w (terminal_of x) h.1)

at_least : (b : Bool) (n : ℕ) → n ≤ cond b 1 0 + n
at_least true n = omega arith
at_least false n = omega arith

passes : (q : Terminal → Bool) (s : List Token) (x : Token) (m : List Token) → IsOne q s x m → counted m ≤ counted s
passes q s x m h = omega (arith, ap counted h.0, at_least (is_counted (terminal_of x)) (counted m))

-- An expression that is derived from tokens is well formed, and weighs at most the number of counted tokens spent.
pub record Facts (s : List Token) (p : ExprWithSpot) (r : List Token) : Type 0 where
  pub formed : IsWellFormed p.tree
  pub spent : weight p.tree + counted r ≤ counted s

abbrev pub FactsOf : Language ExprWithSpot → Type 0
FactsOf G = (s : List Token) (p : ExprWithSpot) (o : Fault) (r : List Token) → G s p o r → o ≡ None → Every IsKnown s → Facts s p r

module _ (R : (n : Nonterminal) → Language (TreeOf n)) (B : (n : Nonterminal) → Shortens (R n))
    (E : FactsOf (R (an_expr Class))) (U : FactsOf (R (a_unary Class))) where
  rest_known : {A : Type 0} (g : Grammar A) (s : List Token) (t : A) (o : Fault) (r : List Token) → Derives R g s t o r → Every IsKnown s → Every IsKnown r
  rest_known g s t o r h known = known_rest s r (derives_has_end R B g s t o r h) known

  -- ---- operands with operators between them

  abbrev pub Tail : (Terminal → Bool) → Grammar ExprWithSpot → Grammar (BinOp × ExprWithSpot)
  Tail ops g = seq (map operator_of (one_of ops)) g

  tail_facts : (ops : Terminal → Bool) → is_within ops is_counted ≡ true → (g : Grammar ExprWithSpot)
      → FactsOf (Derives R g) → (s : List Token) (x : BinOp × ExprWithSpot) (o : Fault) (r : List Token)
      → Derives R (Tail ops g) s x o r → o ≡ None → Every IsKnown s → IsWellFormed x.1.tree × (1 + weight x.1.tree + counted r ≤ counted s)
  tail_facts ops w g f s x o r h e known =
      let sign = h.3 in
      let parts = both_none h.1 (taken s h.0) h.2 (sym e ∙ h.5) in
      let k = f h.0 x.1 h.2 r h.4 parts.1 (known_rest s h.0 (sign.0 ∷ [], sign.1.0.0) known) in
      (k.formed, omega (arith, k.spent, counts ops w s sign.0 h.0 sign.1.0))

  many_facts : (ops : Terminal → Bool) → is_within ops is_counted ≡ true → (g : Grammar ExprWithSpot)
      → FactsOf (Derives R g) → (i n : ℕ) (a : Expression) → IsWellFormed a
      → (xs : List (BinOp × ExprWithSpot)) (s : List Token) (o : Fault) (r : List Token)
      → weight a + counted s ≤ n → Many any (Derives R (Tail ops g)) i s xs o r → o ≡ None → Every IsKnown s
      → IsWellFormed (grouped a xs) × (weight (grouped a xs) + counted r ≤ n)
  many_facts ops w g f i n a formed [] s o r le h e known = (formed, omega (arith, le, ap counted h.0))
  many_facts ops w g f i n a formed (x ∷ xs) s o r le h e known =
      let parts = both_none h.1 (taken s h.0) h.2 (sym e ∙ h.5) in
      let k = tail_facts ops w g f s x h.1 h.0 h.3 parts.0 known in
      many_facts ops w g f (suc i) n (Binary x.0 a x.1.tree) (formed, k.0) xs h.0 h.2 r (omega (arith, le, k.1)) h.4
      parts.1 (rest_known (Tail ops g) s x h.1 h.0 h.3 known)

  ranked_facts : (ops : Terminal → Bool) → is_within ops is_counted ≡ true → (g : Grammar ExprWithSpot)
      → FactsOf (Derives R g) → FactsOf (Derives R (ranked ops g))
  ranked_facts ops w g f s p o r h e known =
      let a = h.0 in
      let q = h.1 in
      let parts = both_none q.1 (taken s q.0) q.2 (sym e ∙ q.5) in
      let first = f s a.0 q.1 q.0 q.3 parts.0 known in
      let all = many_facts ops w g f 0 (counted s) a.0.tree first.formed a.1 q.0 q.2 r first.spent q.4 parts.1 (rest_known g s a.0 q.1 q.0 q.3 known) in
      let F : ExprWithSpot → Type 0 = λ t. Facts s t r in
      subst F h.2 (record { formed = all.0; spent = all.1 })

  -- ---- operands

  -- An expression after a token.
  inside_facts : (k : Terminal) (s : List Token) (p : ExprWithSpot) (o : Fault) (r : List Token)
      → Derives R (inside k Class) s p o r → o ≡ None → Every IsKnown s
      → (x : Token) × (m : List Token) × IsOne (is k) s x m × Facts m p r
  inside_facts k s p o r h e known =
      let x = h.0 in
      let q = h.1 in
      let parts = both_none None 1 q.1 (sym e ∙ q.4) in
      let facts = E q.0 x.1 q.1 r q.3 parts.1 (known_rest s q.0 (x.0 ∷ [], q.2.0) known) in
      let F : ExprWithSpot → Type 0 = λ t. Facts q.0 t r in
      (x.0, q.0, q.2, subst F h.2 facts)

  number_facts : FactsOf (Derives R number)
  unfolding number is_counted
  number_facts s p o r h e known =
      let x = h.0 in
      let q = h.1 in
      let good = good_of (is_number x.text) (sym q.1 ∙ e) in
      let formed : IsNumber (pos (decimal x.text)) = (decimal x.text, refl, (number_parts x.text good).2) in
      let F : ExprWithSpot → Type 0 = λ t. Facts s t r in
      subst F h.2 (record { formed = formed; spent = omega (arith, counts (is terminal.Number) refl s x r q.0) })
    where
      good_of : (b : Bool) → IsNone (bad_unless b BadNumber) → b ≡ true
      good_of true h = refl
      good_of false h = absurd (cc)

  name_facts : FactsOf (Derives R (reference Class))
  unfolding reference is_counted
  name_facts s p o r h e known =
      let x = h.1.0 in
      let q = h.1.1 in
      let K : List Token → Type 0 = λ l. Every IsKnown l in
      let all = subst K q.0.0 known in
      let w : IsName x.text = name_known x q.0.1 all.0 in
      let F : ExprWithSpot → Type 0 = λ t. Facts s t r in
      let W : Word → Type 0 = λ v. Facts s (name_alone v) r in
      subst F h.2 (subst W h.1.2 (record { formed = w; spent = omega (arith, counts is_name refl s x r q.0) }))

  sign_facts : FactsOf (Derives R (signed Class))
  unfolding signed is_counted
  sign_facts s p o r h e known =
      let x = h.0 in
      let q = h.1 in
      let parts = both_none None 1 q.1 (sym e ∙ q.4) in
      let k = U q.0 x.1 q.1 r q.3 parts.1 (known_rest s q.0 (x.0 ∷ [], q.2.0) known) in
      let F : ExprWithSpot → Type 0 = λ t. Facts s t r in
      subst F h.2 (record { formed = k.formed; spent = omega (arith, k.spent, counts is_sign refl s x.0 q.0 q.2) })

  parens_facts : FactsOf (Derives R (parens Class))
  unfolding parens
  parens_facts s p o r h e known =
      let x = h.0 in
      let q = h.1 in
      let parts = both_none q.1 (taken s q.0) q.2 (sym e ∙ q.5) in
      let b = q.3 in
      let inner_parts = both_none None 1 b.1 (sym parts.0 ∙ b.4) in
      let k = E b.0 x.0.1 b.1 q.0 b.3 inner_parts.1 (known_rest s b.0 (x.0.0 ∷ [], b.2.0) known) in
      let F : ExprWithSpot → Type 0 = λ t. Facts s t r in
      subst F h.2 (record {
        formed = k.formed;
        spent = omega (
          arith,
          k.spent,
          passes (is terminal.LeftParen) s x.0.0 b.0 b.2,
          passes (is terminal.RightParen) q.0 x.1 r
              q.4.0,
        );
      })

  pub unary_facts : FactsOf (Derives R (unary Class))
  unfolding unary
  unary_facts s p o r h e known =
      elim h [
        | inl u ↦ sign_facts s p o r u e known
        | inr u ↦ elim u [
          | inl v ↦ number_facts s p o r v e known
          | inr v ↦ elim v
              [ inl w ↦ name_facts s p o r w e known | inr w ↦ parens_facts s p o r w e known ]
        ]
      ]

  product_facts : FactsOf (Derives R (product Class))
  unfolding product is_counted
  product_facts = ranked_facts is_product refl (unary Class) unary_facts

  sum_facts : FactsOf (Derives R (sum Class))
  unfolding sum is_counted
  sum_facts = ranked_facts is_sum refl (product Class) product_facts

  relation_facts : FactsOf (Derives R (relation Class))
  unfolding relation is_counted
  relation_facts = ranked_facts is_relation refl (sum Class) sum_facts

  equality_facts : FactsOf (Derives R (equality Class))
  unfolding equality is_counted
  equality_facts = ranked_facts is_equality refl (relation Class) relation_facts

  conjunction_facts : FactsOf (Derives R (conjunction Class))
  unfolding conjunction is_counted
  conjunction_facts = ranked_facts is_conjunction refl (equality Class) equality_facts

  disjunction_facts : FactsOf (Derives R (disjunction Class))
  unfolding disjunction is_counted
  disjunction_facts = ranked_facts is_disjunction refl (conjunction Class) conjunction_facts

  branches_facts : (s : List Token) (t : ExprWithSpot × ExprWithSpot) (o : Fault) (r : List Token)
      → Derives R (branches Class) s t o r → o ≡ None → Every IsKnown s
      → IsWellFormed t.0.tree × IsWellFormed t.1.tree × (1 + (weight t.0.tree + weight t.1.tree) + counted r ≤ counted s)
  unfolding branches is_counted
  branches_facts s t o r h e known =
      let parts = both_none h.1 (taken s h.0) h.2 (sym e ∙ h.5) in
      let a = inside_facts terminal.Question s t.0 h.1 h.0 h.3 parts.0 known in
      let b = inside_facts terminal.Colon h.0 t.1 h.2 r h.4 parts.1 (rest_known (inside terminal.Question Class) s t.0 h.1 h.0 h.3 known) in (
        a.3.formed,
        b.3.formed,
        omega (
          arith,
          a.3.spent,
          b.3.spent,
          counts (is terminal.Question) refl s a.0 a.1 a.2,
          passes (is terminal.Colon) h.0 b.0 b.1 b.2,
        ),
      )

  pub expr_facts : FactsOf (Derives R (expr Class))
  unfolding expr
  expr_facts s p o r h e known = subst (λ t. Facts s t r) h.2 (go h.0.0 h.0.1 h.1)
    where
      go : (c : ExprWithSpot) (x : Option (ExprWithSpot × ExprWithSpot))
          → Derives R (seq (disjunction Class) (opt (branches Class))) s (c, x) o r → Facts s (chosen (c, x)) r
      go c None q =
          let parts = both_none q.1 (taken s q.0) q.2 (sym e ∙ q.5) in
          let k = disjunction_facts s c q.1 q.0 q.3 parts.0 known in
          record { formed = k.formed; spent = omega (arith, k.spent, ap counted q.4.0) }
      go c (Some x) q =
          let parts = both_none q.1 (taken s q.0) q.2 (sym e ∙ q.5) in
          let k = disjunction_facts s c q.1 q.0 q.3 parts.0 known in
          let b = branches_facts q.0 x q.2 r q.4 parts.1 (rest_known (disjunction Class) s c q.1 q.0 q.3 known) in
          record { formed = (k.formed, b.0, b.1); spent = omega (arith, k.spent, b.2) }

  -- ---- outermost expressions

  short : (s : List Token) (p : ExprWithSpot) (r : List Token) → Facts s p r → HasEnd s r → taken s r ≤ limit_at is_counted 512 128 s → IsOuter p.tree
  short s p r k b le =
      let size : length s ≡ length b.0 + length r = ap (λ (l : List Token). length l) b.1 ∙ length-append b.0 r in
      let same : limit_at is_counted 512 128 s ≡ limit_at is_counted 512 128 (b.0 ++ r) = ap (limit_at is_counted 512 128) b.1 in
      let few = fit_few is_counted b.0 512 128 r (omega (arith, size, same, le)) in
      (k.formed, omega (arith, k.spent, few, ap counted b.1, number_of-append is_counted b.0 r))

  abbrev pub OuterOf : Grammar ExprWithSpot → Type 0
  OuterOf g = (s : List Token) (p : ExprWithSpot) (o : Fault) (r : List Token) → Derives R g s p o r → o ≡ None → Every IsKnown s → IsOuter p.tree

  pub outer_well_formed : OuterOf (outer Class)
  unfolding outer
  outer_well_formed s p o r h e known =
      let parts = cut_none (limit_at is_counted 512 128 s) ExprTooLong (taken s r) h.0 (sym e ∙ h.2) in
      short s p r (expr_facts s p h.0 r h.1 parts.0 known) (derives_has_end R B (expr Class) s p h.0 r h.1) parts.1

  pub guard_well_formed : OuterOf guard
  unfolding guard
  guard_well_formed s p o r h e known =
      let parts = cut_none (limit_at is_counted 512 128 s) ExprTooLong (taken s r) h.0 (sym e ∙ h.2) in
      short s p r (disjunction_facts s p h.0 r h.1 parts.0 known) (derives_has_end R B (disjunction Class) s p h.0 r h.1) parts.1
