use Rattle.std.proofs.Common.{refl}
use Rattle.report_text.proofs.Putting.{puts_cut, puts_then}
use Rattle.report_text.proofs.fields.put_word_field.Goals as goal

pub returns-in_err-put_byte : goal.returns-in_err-put_byte
returns-in_err-put_byte g c = puts_cut c.args.word.now _ c.in_err-put_byte.ensures c.from_residual.ensures.0 refl

pub returns : goal.returns
returns g c = puts_then _ c.in_ok-put_byte.ensures c.put_bytes.ensures refl
