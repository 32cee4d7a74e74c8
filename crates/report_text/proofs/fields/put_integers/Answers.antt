use Rattle.std.proofs.Common.{◌≡◌, ℤ, pos, ◌∷◌, get_or, w64, arith, rules, ◌∙◌}
use Rattle.std.specs.Int.{w128}
use mir.Val.{to_z, of_z, SFits}
use Rattle.std.specs.Fmt.{signed_decimal}
use Rattle.std.proofs.lemmas.Int.{to_z-of_z}
use Rattle.report_text.proofs.Loops.{loop_more, loop_cut}
use Rattle.report_text.proofs.fields.put_integers.Goals as goal

pub returns-in_err-put_integer_field : goal.returns-in_err-put_integer_field
returns-in_err-put_integer_field g c =
    let n = get_or c.args.numbers.now c.loop-n.n-index (pos 0) in
    let fits : SFits w64 n = search rules in
    let wide : SFits w128 c.from.result = search rules in
    let same : to_z w128 (of_z w128 c.from.result) ≡ n = to_z-of_z w128 c.from.result wide ∙ (c.from.ensures ∙ to_z-of_z w64 n fits) in
    loop_cut (λ (z : ℤ). 44 ∷ signed_decimal z) c.args.numbers.now c.loop-n.n-index (pos 0)
    (to_z w128 (of_z w128 c.from.result)) (omega arith) same c.loop-n.invariant c.in_err-put_integer_field.ensures
    c.from_residual.ensures.0

pub loop-n-preserved : goal.loop-n-preserved
loop-n-preserved g c =
    let n = get_or c.args.numbers.now c.loop-n.n-index (pos 0) in
    let fits : SFits w64 n = search rules in
    let wide : SFits w128 c.from.result = search rules in
    let same : to_z w128 (of_z w128 c.from.result) ≡ n = to_z-of_z w128 c.from.result wide ∙ (c.from.ensures ∙ to_z-of_z w64 n fits) in
    loop_more (λ (z : ℤ). 44 ∷ signed_decimal z) c.args.numbers.now c.loop-n.n-index (pos 0)
    (to_z w128 (of_z w128 c.from.result)) (omega arith) same c.loop-n.invariant c.in_ok-put_integer_field.ensures
