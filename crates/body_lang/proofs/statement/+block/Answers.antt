use Rattle.std.proofs.Common.{◌<◌, ◌≤◌, length, ap, ◌∙◌, arith}
use Rattle.std.proofs.lemmas.Result.{err_from_is_err_and}
use Rattle.jdf_tree.specs.BlockStatements.{statements_of}
use Rattle.jdf_tree.specs.Statements.{count_of_statements}
use Rattle.body_lang.specs.Environment.{environment_of}
use Rattle.body_lang.specs.Bindings.{bindings_of}
use Rattle.body_lang.specs.Statements.{resolved}
use Rattle.body_lang.proofs.Blocks.{nothing_yet, goes_on, fails, ends, count_le}
use Rattle.body_lang.proofs.statement.+block.Goals as goal

pub block-statement-requires : goal.block-statement-requires
block-statement-requires t c =
    let below : c.loop-statement_tree.statement_tree-index < length c.as_slice-statement_tree-items.result.now = omega arith in
    let most = count_le c.as_slice-statement_tree-items.result.now c.loop-statement_tree.statement_tree-index
    c.statement_tree-item.result below c.statement_tree-item.is in
    let all = ap count_of_statements c.as_slice-statement_tree-items.ensures in
    (omega (arith, most, all), tt)

pub block-loop-statement_tree-init : goal.block-loop-statement_tree-init
block-loop-statement_tree-init t c =
    rw c.new-list.ensures (nothing_yet (resolved (environment_of c.args.context.now.scope.now)
    (statements_of c.as_slice-statement_tree-items.result.now) (bindings_of c.args.bindings.now))
    ∙ ap (λ s. resolved (environment_of c.args.context.now.scope.now) s (bindings_of c.args.bindings.now)) c.as_slice-statement_tree-items.ensures)

pub block-returns-in_err-next : goal.block-returns-in_err-next
block-returns-in_err-next t c =
    let below : c.loop-statement_tree.statement_tree-index < length c.as_slice-statement_tree-items.result.now = omega arith in
    let p = err_from_is_err_and c.from_residual.result c.from_residual.ensures.1 in
    rw (p.1, p.2) (fails (environment_of c.args.context.now.scope.now) c.as_slice-statement_tree-items.result.now
    c.loop-statement_tree.statement_tree-index c.statement_tree-item.result below c.statement_tree-item.is
    c.loop-statement_tree.list (bindings_of c.loop-statement_tree.bindings) _ c.loop-statement_tree.invariant _ c.in_err-next.ensures)

pub block-loop-statement_tree-preserved : goal.block-loop-statement_tree-preserved
block-loop-statement_tree-preserved t c =
    let below : c.loop-statement_tree.statement_tree-index < length c.as_slice-statement_tree-items.result.now = omega arith in
    goes_on (environment_of c.args.context.now.scope.now) c.as_slice-statement_tree-items.result.now
    c.loop-statement_tree.statement_tree-index c.statement_tree-item.result below c.statement_tree-item.is
    c.loop-statement_tree.list (bindings_of c.loop-statement_tree.bindings) _ c.loop-statement_tree.invariant
    c.in_ok-next.next (bindings_of c.statement.new.bindings) c.push.new.self c.in_ok-push.ensures.ok
    c.in_ok-next.ensures

pub block-returns : goal.block-returns
block-returns t c =
    let all : length c.as_slice-statement_tree-items.result.now ≤ c.loop-statement_tree.statement_tree-index = omega arith in
    rw c.of.ensures (ends (environment_of c.args.context.now.scope.now) c.as_slice-statement_tree-items.result.now
    c.loop-statement_tree.statement_tree-index c.loop-statement_tree.list
    (bindings_of c.loop-statement_tree.bindings) _ all c.loop-statement_tree.invariant)
