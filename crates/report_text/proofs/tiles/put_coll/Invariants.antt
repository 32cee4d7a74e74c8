use Rattle.std.proofs.Common.{ℕ, ℤ, List, take, flat_map}
use Rattle.report_text.specs.Printed.{tile_line}
use Rattle.report_text.proofs.Placing.{placed}
use Rattle.report_text.proofs.Putting.{HasPut}
use Rattle.report_text.proofs.tiles.put_coll.Given as goal

abbrev pub invariant-loop-n : goal.invariant-loop-n
invariant-loop-n g l = HasPut g.O.Sink.bytes g.O.Sink.faults l.initial.sink l.initial.out l.sink l.out
    (flat_map (λ (p : List ℕ × List ℤ). tile_line l.coll.name p.0 p.1) (take l.n (placed l.coll)))
