use Rattle.std.proofs.Common.{sym, refl, ◌∙◌, arith, rules}
use Rattle.std.proofs.lemmas.Result.{err_from_is_err_and}
use Rattle.ptg_base.specs.Returns.{ReturnsRefusal}
use Rattle.grammar_core.specs.Reading.{reading}
use Rattle.grammar_core.proofs.CallerLemmas.{fails_before}
use Rattle.jdf_lex.specs.declared.terminal.Terminal.TheVariants as terminal
use Rattle.jdf_lex.specs.Terminals.{is}
use Rattle.jdf_tree.specs.declared.part.Part.TheVariants.{Body}
use Rattle.jdf_tree.specs.ExpressionGrammar.{parens, index, reference, disjunction, branches, expr}
use Rattle.jdf_tree.specs.Grammar.{productions}
use Rattle.expr_read.specs.Precedences.{operand_of, operators_of, of_precedence}
use Rattle.expr_read.proofs.Named.{expr_is}
use Rattle.expr_read.proofs.Loops.{token_shrinks, reading_shrinks, operator_shrinks, loop_goes_on, loop_fails, operands_are, tail_ends, fails_with}
use Rattle.expr_read.proofs.Loops.{unary_reads, element_reads, expr_reads}
use Rattle.expr_read.proofs.operators.+expression.Goals as goal

pub operands-returns-in_err-right : goal.operands-returns-in_err-right
operands-returns-in_err-right t c =
    let p = err_from_is_err_and c.from_residual-in_err-right.result c.from_residual-in_err-right.ensures.1 in
    rw (p.1, p.2) (loop_fails _ c.args.part c.args.precedence c.in_ok-first.first.spot c.loop-operator.left
    c.loop-operator.rest.now _ _ _ c.in-Some.ensures c.in_err-right.ensures c.loop-operator.invariant.reads)

pub operands-loop-operator-preserved : goal.operands-loop-operator-preserved
operands-loop-operator-preserved t c =
    let on = c.in-Some.ensures in
    let a = operator_shrinks (operators_of c.args.precedence) c.loop-operator.rest.now _ c.in-Some.after.now on.1 in
    let b = reading_shrinks (operand_of c.args.precedence c.args.part) c.in-Some.after.now _ c.in_ok-right.next.now c.in_ok-right.ensures in
    record {
      reads = rw c.in_ok-left.ensures (loop_goes_on c.args.part c.args.precedence c.in_ok-first.first.spot
          c.loop-operator.left c.loop-operator.rest.now _ _ _ _ _ on c.in_ok-right.ensures
          c.loop-operator.invariant.reads);
      shorter = omega (arith, a, b);
    }

pub unary-returns-then-is_sign_next : goal.unary-returns-then-is_sign_next
unary-returns-then-is_sign_next t c = rw (unary_reads c.args.part c.args.tokens.now, sym c.is_sign_next.ensures ∙ c.if-is_sign_next.true) c.signed.ensures

pub unary-returns-then-is_next : goal.unary-returns-then-is_next
unary-returns-then-is_next t c = rw (
  unary_reads c.args.part c.args.tokens.now,
  sym c.is_sign_next.ensures
      ∙ c.if-is_sign_next.false,
  sym c.is_next.ensures ∙ c.if-is_next.true,
) c.number.ensures

pub unary-returns-then-is_name_next : goal.unary-returns-then-is_name_next
unary-returns-then-is_name_next t c = rw (
  unary_reads c.args.part c.args.tokens.now,
  sym c.is_sign_next.ensures
      ∙ c.if-is_sign_next.false,
  sym c.is_next.ensures ∙ c.if-is_next.false,
  sym c.is_name_next.ensures
      ∙ c.if-is_name_next.true,
) c.reference.ensures

pub unary-returns : goal.unary-returns
unary-returns t c = rw (
  unary_reads c.args.part c.args.tokens.now,
  sym c.is_sign_next.ensures
      ∙ c.if-is_sign_next.false,
  sym c.is_next.ensures ∙ c.if-is_next.false,
  sym c.is_name_next.ensures
      ∙ c.if-is_name_next.false,
) c.parens.ensures

pub expression-returns-then-not-is_next : goal.expression-returns-then-not-is_next
expression-returns-then-not-is_next t c = expr_reads c.args.part c.args.tokens.now
    ∙ rw (c.in_ok-condition.ensures, sym c.is_next.ensures ∙ c.if-not-is_next.true) refl

pub expression-returns : goal.expression-returns
expression-returns t c = expr_reads c.args.part c.args.tokens.now
    ∙ rw (
      c.in_ok-condition.ensures,
      sym c.is_next.ensures
          ∙ c.if-not-is_next.false,
      c.in_ok-yes.ensures,
      c.in_ok-tree.ensures,
    ) refl

pub expression-returns-in_err-condition : goal.expression-returns-in_err-condition
expression-returns-in_err-condition t c =
    let fails : ReturnsRefusal c.in_err-condition.field-0.0
    (reading productions (expr c.args.part) c.args.tokens.now) =
    rw (expr_reads c.args.part c.args.tokens.now) (fails_before _ _ _ c.in_err-condition.ensures) in
    search rules

pub expression-returns-in_err-yes : goal.expression-returns-in_err-yes
expression-returns-in_err-yes t c =
    let fails : ReturnsRefusal c.in_err-yes.field-0.0 (reading productions (expr c.args.part) c.args.tokens.now) =
    rw (
      expr_reads c.args.part c.args.tokens.now,
      c.in_ok-condition.ensures,
      sym c.is_next.ensures
          ∙ c.if-not-is_next.false,
    ) (fails_before _ _ _ c.in_err-yes.ensures) in
    search rules

pub expression-branches-requires : goal.expression-branches-requires
expression-branches-requires t c = let shrinks = reading_shrinks (disjunction c.args.part) _ _ _ c.in_ok-condition.ensures in (omega (arith, shrinks), tt)

pub element-returns : goal.element-returns
element-returns t c = element_reads c.args.tokens.now
    ∙ rw (
      c.in_ok-name.ensures,
      sym c.is_next.ensures
          ∙ c.if-not-is_next.false,
      c.in_ok-at.ensures,
      c.in_ok-tree.ensures,
    ) refl

pub element-returns-in_err-name : goal.element-returns-in_err-name
element-returns-in_err-name t c =
    let fails : ReturnsRefusal c.in_err-name.field-0.0 (reading productions (reference Body) c.args.tokens.now) =
    rw (element_reads c.args.tokens.now) (fails_before _ _ _ c.in_err-name.ensures) in
    search rules

pub element-returns-in_err-at : goal.element-returns-in_err-at
element-returns-in_err-at t c =
    let fails : ReturnsRefusal c.in_err-at.field-0.0 (reading productions (reference Body) c.args.tokens.now) =
    rw (element_reads c.args.tokens.now, c.in_ok-name.ensures, sym c.is_next.ensures ∙ c.if-not-is_next.false)
    (fails_before _ _ _ c.in_err-at.ensures) in
    search rules

pub operands-loop-operator-init : goal.operands-loop-operator-init
operands-loop-operator-init t c = record {
  reads = sym (operands_are c.args.part c.args.precedence c.args.tokens.now ∙ rw c.in_ok-first.ensures refl);
  shorter = reading_shrinks (operand_of c.args.precedence c.args.part) _ _ _ c.in_ok-first.ensures;
}

pub operands-returns : goal.operands-returns
operands-returns t c = sym c.loop-operator.invariant.reads
    ∙ tail_ends c.args.part c.args.precedence c.in_ok-first.first.spot c.loop-operator.left c.loop-operator.rest.now
    c.in_default.ensures

pub operands-returns-in_err-first : goal.operands-returns-in_err-first
operands-returns-in_err-first t c =
    let fails : ReturnsRefusal c.in_err-first.field-0.0
    (reading productions (of_precedence c.args.precedence c.args.part) c.args.tokens.now) =
    rw (operands_are c.args.part c.args.precedence c.args.tokens.now)
    (fails_before _ _ _ c.in_err-first.ensures) in
    search rules

pub branches-returns : goal.branches-returns
unfolding branches
branches-returns t c = rw (c.in_ok-rest.ensures, expr_is, c.in_ok-yes.ensures, c.in_ok-rest-2.ensures, expr_is, c.in_ok-no.ensures) refl

pub parens-returns : goal.parens-returns
unfolding parens
parens-returns t c = rw (c.in_ok-open.ensures, expr_is, c.in_ok-inside.ensures, c.in_ok-rest.ensures) refl

pub index-returns : goal.index-returns
unfolding index
index-returns t c = rw (c.in_ok-rest.ensures, expr_is, c.in_ok-inside.ensures, c.in_ok-rest-2.ensures) refl

pub parens-expression-requires : goal.parens-expression-requires
parens-expression-requires t c = let shrinks = token_shrinks (is terminal.LeftParen) _ _ _ c.in_ok-open.ensures in (omega (arith, shrinks), tt)

pub index-expression-requires : goal.index-expression-requires
index-expression-requires t c = let shrinks = token_shrinks (is terminal.LeftBracket) _ _ _ c.in_ok-rest.ensures in (omega (arith, shrinks), tt)

pub branches-expression-requires : goal.branches-expression-requires
branches-expression-requires t c = let shrinks = token_shrinks (is terminal.Question) _ _ _ c.in_ok-rest.ensures in (omega (arith, shrinks), tt)

pub branches-expression-requires-2 : goal.branches-expression-requires-2
branches-expression-requires-2 t c =
    let mark = token_shrinks (is terminal.Question) _ _ _ c.in_ok-rest.ensures in
    let yes = reading_shrinks (expr c.args.part) _ _ _ c.in_ok-yes.ensures in
    let colon = token_shrinks (is terminal.Colon) _ _ _ c.in_ok-rest-2.ensures in
    (omega (arith, mark, yes, colon), tt)

pub parens-returns-in_err-open : goal.parens-returns-in_err-open
unfolding parens
parens-returns-in_err-open t c =
    let fails : ReturnsRefusal c.in_err-open.field-0.0
    (reading productions (parens c.args.part) c.args.tokens.now) =
    fails_with _ _ _ c.in_err-open.ensures (λ d is. rw is refl) in
    search rules

pub parens-returns-in_err-inside : goal.parens-returns-in_err-inside
unfolding parens
parens-returns-in_err-inside t c =
    let fails : ReturnsRefusal c.in_err-inside.field-0.0
    (reading productions (parens c.args.part) c.args.tokens.now) =
    fails_with _ _ _ c.in_err-inside.ensures (λ d is. rw (c.in_ok-open.ensures, expr_is, is) refl) in
    search rules

pub parens-returns-in_err-rest : goal.parens-returns-in_err-rest
unfolding parens
parens-returns-in_err-rest t c =
    let fails : ReturnsRefusal c.in_err-rest.field-0.0
    (reading productions (parens c.args.part) c.args.tokens.now) =
    fails_with _ _ _ c.in_err-rest.ensures
    (λ d is. rw (c.in_ok-open.ensures, expr_is, c.in_ok-inside.ensures, is) refl) in
    search rules

pub index-returns-in_err-rest : goal.index-returns-in_err-rest
unfolding index
index-returns-in_err-rest t c =
    let fails : ReturnsRefusal c.in_err-rest.field-0.0 (reading productions index c.args.tokens.now) =
    fails_with _ _ _ c.in_err-rest.ensures (λ d is. rw is refl) in
    search rules

pub index-returns-in_err-inside : goal.index-returns-in_err-inside
unfolding index
index-returns-in_err-inside t c =
    let fails : ReturnsRefusal c.in_err-inside.field-0.0 (reading productions index c.args.tokens.now) =
    fails_with _ _ _ c.in_err-inside.ensures (λ d is. rw (c.in_ok-rest.ensures, expr_is, is) refl) in
    search rules

pub index-returns-in_err-rest-2 : goal.index-returns-in_err-rest-2
unfolding index
index-returns-in_err-rest-2 t c =
    let fails : ReturnsRefusal c.in_err-rest-2.field-0.0 (reading productions index c.args.tokens.now) =
    fails_with _ _ _ c.in_err-rest-2.ensures
    (λ d is. rw (c.in_ok-rest.ensures, expr_is, c.in_ok-inside.ensures, is) refl) in
    search rules

pub branches-returns-in_err-rest : goal.branches-returns-in_err-rest
unfolding branches
branches-returns-in_err-rest t c =
    let fails : ReturnsRefusal c.in_err-rest.field-0.0
    (reading productions (branches c.args.part) c.args.tokens.now) =
    fails_with _ _ _ c.in_err-rest.ensures (λ d is. rw is refl) in
    search rules

pub branches-returns-in_err-yes : goal.branches-returns-in_err-yes
unfolding branches
branches-returns-in_err-yes t c =
    let fails : ReturnsRefusal c.in_err-yes.field-0.0
    (reading productions (branches c.args.part) c.args.tokens.now) =
    fails_with _ _ _ c.in_err-yes.ensures (λ d is. rw (c.in_ok-rest.ensures, expr_is, is) refl) in
    search rules

pub branches-returns-in_err-rest-2 : goal.branches-returns-in_err-rest-2
unfolding branches
branches-returns-in_err-rest-2 t c =
    let fails : ReturnsRefusal c.in_err-rest-2.field-0.0
    (reading productions (branches c.args.part) c.args.tokens.now) =
    fails_with _ _ _ c.in_err-rest-2.ensures
    (λ d is. rw (c.in_ok-rest.ensures, expr_is, c.in_ok-yes.ensures, is) refl) in
    search rules

pub branches-returns-in_err-no : goal.branches-returns-in_err-no
unfolding branches
branches-returns-in_err-no t c =
    let fails : ReturnsRefusal c.in_err-no.field-0.0
    (reading productions (branches c.args.part) c.args.tokens.now) =
    fails_with _ _ _ c.in_err-no.ensures
    (λ d is. rw (c.in_ok-rest.ensures, expr_is, c.in_ok-yes.ensures, c.in_ok-rest-2.ensures, expr_is, is)
    refl) in
    search rules
