use Rattle.std.proofs.Common.{take, flat_map}
use Rattle.report_text.specs.Printed.{coll_lines}
use Rattle.report_text.proofs.Putting.{HasPut}
use Rattle.report_text.proofs.tiles.put_colls.Given as goal

abbrev pub invariant-loop-coll : goal.invariant-loop-coll
invariant-loop-coll g l = HasPut g.O.Sink.bytes g.O.Sink.faults l.initial.sink l.initial.out l.sink l.out (flat_map coll_lines (take l.coll-index l.colls))
