use Rattle.std.proofs.Common.{◌≡◌, ◌∷◌, ℤ, refl, sym, ap}
use mir.Val.{to_z, of_z}
use Rattle.std.specs.Fmt.{signed_decimal}
use Rattle.std.specs.Int.{w128}
use Rattle.std.proofs.lemmas.Int.{to_z-of_z}
use Rattle.report_text.proofs.Putting.{puts_cut, puts_then}
use Rattle.report_text.proofs.fields.put_integer_field.Goals as goal

pub returns-in_err-put_byte : goal.returns-in_err-put_byte
returns-in_err-put_byte g c = puts_cut (signed_decimal c.args.n) _ c.in_err-put_byte.ensures c.from_residual.ensures.0 refl

pub returns : goal.returns
returns g c =
    let same : to_z w128 (of_z w128 c.args.n) ≡ c.args.n = to_z-of_z w128 c.args.n c.ranges.n in
    puts_then _ c.in_ok-put_byte.ensures c.put_integer.ensures (ap (λ (z : ℤ). 44 ∷ signed_decimal z) (sym same))
