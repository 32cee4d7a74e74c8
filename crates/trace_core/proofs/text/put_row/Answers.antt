use Rattle.std.proofs.Common.{◌++◌, ap, sym, ◌∙◌, slice_get}
use Rattle.trace_core.specs.Rows.{number_fields}
use Rattle.trace_core.proofs.Texts.{row_put}
use Rattle.trace_core.proofs.text.put_row.Goals as goal

pub returns : goal.returns
returns c =
    row_put c.args.plan.now c.args.t.now c.class-2.result.now c.args.out.now c.append.new.self c.append-2.new.self
    c.put_numbers.new.out c.append-3.new.self c.bytes.result.now
    (ap (slice_get c.args.plan.now.classes) (sym c.class.ensures) ∙ c.class-2.ensures.class) c.bytes.ensures
    c.in_ok-append.ensures.ok c.in_ok-append-2.ensures.ok (c.in_ok-put_numbers.ensures
    ∙ ap (λ l. c.append-2.new.self ++ number_fields l) c.params.ensures.same) c.in_ok-append-3.ensures.ok
