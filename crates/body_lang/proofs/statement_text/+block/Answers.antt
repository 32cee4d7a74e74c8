use Rattle.std.proofs.Common.{sym, ◌∙◌, arith}
use Rattle.std.proofs.lemmas.Result.{err_from_is_err_and}
use Rattle.jdf_lex.specs.declared.terminal.Terminal.TheVariants as terminal
use Rattle.jdf_lex.specs.Terminals.{is}
use Rattle.jdf_tree.specs.declared.part.Part.TheVariants.{Body}
use Rattle.jdf_tree.specs.GrammarParts.{name}
use Rattle.jdf_tree.specs.ExpressionGrammar.{outer}
use Rattle.jdf_tree.specs.BodyGrammar.{statement}
use Rattle.jdf_tree.proofs.CallerLemmas.{list_moves}
use Rattle.body_lang.proofs.Begins.{statements_fail, statements_go_on, statements_listed}
use Rattle.body_lang.proofs.statement_text.+block.Goals as goal
use Rattle.expr_read.proofs.CallerLemmas.{reading_shrinks, token_shrinks}

pub for_loop-block-requires : goal.for_loop-block-requires
for_loop-block-requires t c =
    let a = token_shrinks (is terminal.For) c.args.tokens.now _ _ c.in_ok-rest.ensures in
    let b = reading_shrinks (name Body) c.in_ok-rest.rest.now _ _ c.in_ok-name.ensures in
    let d = token_shrinks (is terminal.Assign) c.in_ok-name.rest.now _ _ c.in_ok-rest-2.ensures in
    let e = reading_shrinks (outer Body) c.in_ok-rest-2.rest.now _ _ c.in_ok-low.ensures in
    let f = token_shrinks (is terminal.Dots) c.in_ok-low.rest.now _ _ c.in_ok-rest-3.ensures in
    let g = reading_shrinks (outer Body) c.in_ok-rest-3.rest.now _ _ c.in_ok-high.ensures in
    (omega (arith, a, b, d, e, f, g), tt)

pub statements-more-smaller : goal.statements-more-smaller
statements-more-smaller t c = omega (arith, list_moves {g = statement} _ _ _ statements_listed c.in_ok-next.ensures)

pub statements-more-preserved : goal.statements-more-preserved
statements-more-preserved t c =
    let moved = list_moves {g = statement} _ _ _ statements_listed c.in_ok-next.ensures in
    record {
      reads = statements_go_on c.more.list c.more.rest.now c.in_ok-next.next c.in_ok-next.after.now _
          c.push.new.self c.in_ok-push.ensures.ok (sym c.is_statement_next.ensures ∙ c.more-test.true)
          c.in_ok-next.ensures c.more.invariant.reads;
      shorter = omega (arith, moved, c.more.invariant.shorter);
    }

pub statements-returns-in_err-next : goal.statements-returns-in_err-next
statements-returns-in_err-next t c =
    let p = err_from_is_err_and c.from_residual.result c.from_residual.ensures.1 in
    rw (p.1, p.2) (statements_fail _ c.more.list c.more.rest.now c.args.tokens.now
    (sym c.is_statement_next.ensures ∙ c.more-test.true) c.in_err-next.ensures c.more.invariant.reads)
