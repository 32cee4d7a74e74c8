use Rattle.std.proofs.Common.{ℕ, [], ◌∷◌, ◌++◌, ap, refl, sym}
use Rattle.std.specs.Prelude.{codes}
use Rattle.std.specs.Fmt.{decimal}
use Rattle.report_text.specs.Field.{line}
use Rattle.report_text.specs.Printed.{stalled_line}
use Rattle.report_text.proofs.Putting.{puts_then, puts_cut}
use Rattle.report_text.proofs.certificate.put_cycle_head.Goals as goal

pub returns-in_err-put_stalled : goal.returns-in_err-put_stalled
returns-in_err-put_stalled g c = puts_cut _ _ c.in_err-put_stalled.ensures c.from_residual.ensures.0 refl

pub returns : goal.returns
returns g c =
    let found = c.args.found.now in
    let is = ap (λ (n : ℕ). stalled_line found.ran found.tasks ++ line (codes "cycle" ∷ decimal n ∷ [])) (sym c.len.ensures) in
    puts_then _ c.in_ok-put_stalled.ensures c.put_line.ensures is
