use Rattle.std.proofs.Common.{◌≤◌, ◌<◌, length, rules}
use Rattle.grammar_core.specs.Reading.{reading}
use Rattle.grammar_core.proofs.CallerLemmas.{fault_is_of_refusals as fault_is}
use Rattle.jdf_lex.specs.Counted.{expression_limit}
use Rattle.jdf_tree.specs.Grammar.{productions}
use Rattle.expr_read.specs.Precedences.{form_of}
use Rattle.expr_read.proofs.InWindow.{short, slice, fault}
use Rattle.expr_read.proofs.window.within_limit.Goals as goal

-- there are no more tokens than the limit
pub returns-then-tokens-limit : goal.returns-then-tokens-limit
returns-then-tokens-limit c =
    let within : length c.args.tokens.now ≤ expression_limit.at c.args.tokens.now = rw c.expression_limit-limit.ensures at c.if-tokens-limit.true in
    rw (short c.args.outermost c.args.tokens.now within) c.form.ensures

-- the expression ends inside the window
pub returns-in-Ok : goal.returns-in-Ok
returns-in-Ok c =
    slice c.args.outermost c.args.tokens.now c.split_at.result.0.now c.split_at.result.1.now
    c.expression_limit-limit.result c.expression_limit-limit.ensures c.split_at.ensures.front
    c.split_at.ensures.back c.if-tokens-limit.false
    c.in-Ok.tree c.in-Ok.rest.now c.in-Ok.ensures c.if-not-is_empty.ensures

-- a fault inside the window
pub returns : goal.returns
returns c =
    let met = fault_is (reading productions (form_of c.args.outermost) c.split_at.result.0.now)
    c.in-Err-Fault.field-0 c.in-Err-Fault.field-0-0.left c.in-Err-Fault.field-0-0.code c.in-Err-Fault.ensures
    c.in-Err-Fault.field-0-is in
    let some : 0 < c.in-Err-Fault.field-0-0.left = search rules in
    rw c.in-Err-Fault.field-0-is
    (fault c.args.outermost c.args.tokens.now c.split_at.result.0.now c.split_at.result.1.now
    c.expression_limit-limit.result c.expression_limit-limit.ensures c.split_at.ensures.front
    c.split_at.ensures.back c.if-tokens-limit.false
    c.in-Err-Fault.field-0-0 some met)
