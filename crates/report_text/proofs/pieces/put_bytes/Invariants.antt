use Rattle.std.proofs.Common.{take}
use Rattle.report_text.proofs.Putting.{HasPut}
use Rattle.report_text.proofs.pieces.put_bytes.Given as goal

abbrev pub invariant-loop-byte : goal.invariant-loop-byte
invariant-loop-byte g l = HasPut g.O.Sink.bytes g.O.Sink.faults l.initial.sink l.initial.out l.sink l.out (take l.byte-index l.bytes)
