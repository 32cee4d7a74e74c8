use Rattle.std.proofs.Common.{◌∷◌, take, flat_map}
use Rattle.std.specs.Fmt.{signed_decimal}
use Rattle.report_text.proofs.Putting.{HasPut}
use Rattle.report_text.proofs.fields.put_integers.Given as goal

abbrev pub invariant-loop-n : goal.invariant-loop-n
invariant-loop-n g l = HasPut g.O.Sink.bytes g.O.Sink.faults l.initial.sink l.initial.out l.sink l.out
    (flat_map (λ n. 44 ∷ signed_decimal n) (take l.n-index l.numbers))
