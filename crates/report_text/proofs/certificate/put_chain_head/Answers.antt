use Rattle.std.proofs.Common.{ℕ, [], ◌∷◌, ◌++◌, ap, refl, sym}
use Rattle.std.specs.Prelude.{codes}
use Rattle.std.specs.Fmt.{decimal}
use Rattle.report_text.specs.Field.{line}
use Rattle.report_text.specs.Printed.{complete_line}
use Rattle.report_text.proofs.Putting.{puts_then, puts_cut}
use Rattle.report_text.proofs.certificate.put_chain_head.Goals as goal

pub returns-in_err-put_complete : goal.returns-in_err-put_complete
returns-in_err-put_complete g c = puts_cut _ _ c.in_err-put_complete.ensures c.from_residual.ensures.0 refl

pub returns : goal.returns
returns g c =
    let found = c.args.found.now in
    let is = ap (λ (n : ℕ). complete_line found.tasks ++ line (codes "chain" ∷ decimal n ∷ decimal found.weight ∷ [])) (sym c.len.ensures) in
    puts_then _ c.in_ok-put_complete.ensures c.put_line.ensures is
