use Rattle.std.proofs.Common.{[], ◌∷◌, refl}
use Rattle.report_text.proofs.Lines.{line_parts}
use Rattle.report_text.proofs.Putting.{puts_cut, puts_then}
use Rattle.report_text.proofs.fields.put_line.Goals as goal

pub returns-in_err-put_bytes : goal.returns-in_err-put_bytes
returns-in_err-put_bytes g c =
    puts_cut _ _ c.in_err-put_bytes.ensures c.from_residual.ensures.0 (line_parts c.args.word.now c.args.fields.now)

pub returns-in_err-put_fields : goal.returns-in_err-put_fields
returns-in_err-put_fields g c =
    let is = line_parts c.args.word.now c.args.fields.now in
    puts_then _ c.in_ok-put_bytes.ensures (puts_cut (10 ∷ []) _ c.in_err-put_fields.ensures c.from_residual-in_err-put_fields.ensures.0 refl) is

pub returns : goal.returns
returns g c =
    let is = line_parts c.args.word.now c.args.fields.now in
    puts_then _ c.in_ok-put_bytes.ensures (puts_then _ c.in_ok-put_fields.ensures c.put_byte.ensures refl) is
