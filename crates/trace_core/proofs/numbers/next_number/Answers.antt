use Rattle.std.proofs.Common.{◌∷◌, ◌∙◌}
use Rattle.trace_core.proofs.Fields.{field_none}
use Rattle.trace_core.proofs.numbers.next_number.Goals as goal

pub returns-in-None : goal.returns-in-None
returns-in-None c =
    field_none c.args.fields.now c.in-Some.rest.now c.cut.result.0.now c.cut.result.1.now
    (c.in-Some.ensures.cases.0 ∙ (λ i. c.if-first-ne44.false i ∷ c.in-Some.rest.now)) c.cut.ensures c.in-None.ensures
