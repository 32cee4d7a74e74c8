use Rattle.std.proofs.Common.{take, flat_map}
use Rattle.report_text.proofs.Putting.{HasPut}
use Rattle.report_text.proofs.row_list.put_list.Given as goal

abbrev pub invariant-loop-row : goal.invariant-loop-row
invariant-loop-row g l = HasPut g.O.Sink.bytes g.O.Sink.faults l.initial.sink l.initial.out l.sink l.out
    (flat_map (g.T.Row.lines l.plan) (take l.row-index l.rows))
