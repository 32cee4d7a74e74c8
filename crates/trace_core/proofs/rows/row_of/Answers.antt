use Rattle.std.proofs.Common.{sym, ◌∙◌}
use Rattle.std.proofs.lemmas.Bool.{false≢true}
use Rattle.trace_core.proofs.Fields.{parts_none, parts_some}
use Rattle.trace_core.proofs.rows.row_of.Goals as goal

pub returns-then-not-is_name : goal.returns-then-not-is_name
returns-then-not-is_name c =
    parts_none c.args.line.now c.in-Some.fields.now c.cut.result.0.now c.cut.result.1.now c.in-Some.ensures
    c.cut.ensures (λ named p. false≢true (c.if-not-is_name.ensures ∙ named))

pub returns-then-not-are_numbers : goal.returns-then-not-are_numbers
returns-then-not-are_numbers c =
    parts_none c.args.line.now c.in-Some.fields.now c.cut.result.0.now c.cut.result.1.now c.in-Some.ensures
    c.cut.ensures (λ named p. false≢true (c.if-not-are_numbers.ensures.1 p))

pub returns : goal.returns
returns c =
    parts_some c.args.line.now c.in-Some.fields.now c.cut.result.0.now c.cut.result.1.now c.in-Some.ensures
    c.cut.ensures (sym c.if-not-is_name.ensures) (c.are_numbers.ensures.0 c.if-not-are_numbers.false)
