use Rattle.std.proofs.Common.{take, flat_map}
use Rattle.report_text.specs.Field.{field_texts, with_commas}
use Rattle.report_text.proofs.Putting.{HasPut}
use Rattle.report_text.proofs.fields.put_fields.Given as goal

abbrev pub invariant-loop-field : goal.invariant-loop-field
invariant-loop-field g l = HasPut g.O.Sink.bytes g.O.Sink.faults l.initial.sink l.initial.out l.sink l.out
    (flat_map (λ field. with_commas (field_texts field)) (take l.field-index l.fields))
