use Rattle.std.proofs.Common.{arith}
use Rattle.report_text.specs.Printed.{coll_lines}
use Rattle.report_text.proofs.Loops.{loop_more, loop_cut}
use Rattle.report_text.proofs.tiles.put_colls.Goals as goal

pub returns-in_err-put_coll : goal.returns-in_err-put_coll
returns-in_err-put_coll g c =
    loop_cut coll_lines c.args.colls.now c.loop-coll.coll-index _ _ (omega arith) c.coll-item.is c.loop-coll.invariant
    c.in_err-put_coll.ensures c.from_residual.ensures.0

pub loop-coll-preserved : goal.loop-coll-preserved
loop-coll-preserved g c =
    loop_more coll_lines c.args.colls.now c.loop-coll.coll-index _ _ (omega arith) c.coll-item.is c.loop-coll.invariant c.in_ok-put_coll.ensures
