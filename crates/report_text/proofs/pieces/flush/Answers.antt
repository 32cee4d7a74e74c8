use Rattle.std.proofs.Common.{refl, []}
use Rattle.report_text.proofs.Putting.{puts_some, puts_cut}
use Rattle.report_text.proofs.pieces.flush.Goals as goal

pub returns-in_err-write_all-clause-puts : goal.returns-in_err-write_all-clause-puts
returns-in_err-write_all-clause-puts g c =
    let p = c.in_err-write_all.ensures in
    let q = puts_some {bytes = g.O.Sink.bytes} {faults = g.O.Sink.faults} c.as_slice.result.now c.args.out.now p.prefix.0 p.prefix.2 p.grows p.failed in
    puts_cut [] [] (rw c.as_slice.ensures at q) c.from_residual.ensures.0 refl
