use Rattle.std.proofs.Common.{[], get_or, refl, arith}
use Rattle.report_text.specs.Field.{field_texts, with_commas}
use Rattle.report_text.specs.declared.fields.Field.{Field}
use Rattle.report_text.specs.declared.fields.Field.TheVariants.{Word}
use Rattle.report_text.proofs.Loops.{loop_more, loop_cut}
use Rattle.report_text.proofs.fields.put_fields.Goals as goal

pub returns-in_err-put_field : goal.returns-in_err-put_field
returns-in_err-put_field g c =
    let none : Field = Word (record { ref_ptr = (0, 0); now = [] }) in
    loop_cut (λ (field : Field). with_commas (field_texts field)) c.args.fields.now c.loop-field.field-index none
    (get_or c.args.fields.now c.loop-field.field-index none) (omega arith) refl c.loop-field.invariant
    c.in_err-put_field.ensures c.from_residual.ensures.0

pub loop-field-preserved : goal.loop-field-preserved
loop-field-preserved g c =
    let none : Field = Word (record { ref_ptr = (0, 0); now = [] }) in
    loop_more (λ (field : Field). with_commas (field_texts field)) c.args.fields.now c.loop-field.field-index none
    (get_or c.args.fields.now c.loop-field.field-index none) (omega arith) refl c.loop-field.invariant
    c.in_ok-put_field.ensures
