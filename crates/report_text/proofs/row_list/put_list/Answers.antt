use Rattle.std.proofs.Common.{arith}
use Rattle.report_text.proofs.Loops.{loop_more, loop_cut}
use Rattle.report_text.proofs.row_list.put_list.Goals as goal

pub returns-in_err-put : goal.returns-in_err-put
returns-in_err-put g c =
    loop_cut (g.T.Row.lines c.args.plan.now) c.args.rows.now c.loop-row.row-index _ _ (omega arith) c.row-item.is
    c.loop-row.invariant c.in_err-put.ensures c.from_residual.ensures.0

pub loop-row-preserved : goal.loop-row-preserved
loop-row-preserved g c =
    loop_more (g.T.Row.lines c.args.plan.now) c.args.rows.now c.loop-row.row-index _ _ (omega arith) c.row-item.is
    c.loop-row.invariant c.in_ok-put.ensures
