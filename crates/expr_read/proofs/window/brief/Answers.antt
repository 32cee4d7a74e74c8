use Rattle.std.proofs.Common.{arith}
use Rattle.expr_read.proofs.Brief.{brief_reads}
use Rattle.expr_read.proofs.window.brief.Goals as goal

-- the expression ends among the first tokens
pub returns-in-Ok : goal.returns-in-Ok
returns-in-Ok c =
    brief_reads c.args.outermost c.args.tokens.now c.split_at.result.0.now c.split_at.result.1.now
    c.split_at.ensures.front c.split_at.ensures.back (omega (arith, c.if-tokens-le-WITHIN.false))
    c.in-Ok.tree c.in-Ok.rest.now c.in-Ok.ensures c.if-not-is_empty.ensures
