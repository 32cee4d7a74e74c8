use Rattle.trace_core.proofs.Fields.{a_row, no_row}
use Rattle.trace_core.proofs.rows.next_row.Goals as goal

pub returns-in-Some-row_of : goal.returns-in-Some-row_of
returns-in-Some-row_of c =
    a_row c.args.text.now c.cut.result.0.now c.cut.result.1.now c.in-Some.field-0-0.now c.in-Some.later.now
    c.in-Some-row_of.row.name.now c.in-Some-row_of.row.numbers.now
    c.cut.ensures c.in-Some.ensures.cases.0 c.in-Some-row_of.ensures

pub returns-in-None : goal.returns-in-None
returns-in-None c =
    no_row c.args.text.now c.cut.result.0.now c.cut.result.1.now c.in-Some.field-0-0.now c.in-Some.later.now
    c.cut.ensures c.in-Some.ensures.cases.0 c.in-None.ensures
