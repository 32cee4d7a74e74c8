use Rattle.std.proofs.Common.{refl}
use Rattle.report_text.proofs.Putting.{puts_then, puts_cut}
use Rattle.report_text.proofs.answer.put_outcome.Goals as goal

pub returns-in_err-put_first_line : goal.returns-in_err-put_first_line
returns-in_err-put_first_line g c = puts_cut _ _ c.in_err-put_first_line.ensures c.from_residual.ensures.0 refl

pub returns : goal.returns
returns g c = puts_then _ c.in_ok-put_first_line.ensures c.put_rows.ensures refl
