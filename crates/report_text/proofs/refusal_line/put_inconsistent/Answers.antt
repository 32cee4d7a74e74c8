use Rattle.std.specs.Prelude.{codes}
use Rattle.std.proofs.Common.{ℕ, ℤ, List, [], ◌∷◌, ◌++◌, map, sym, ap, ◌∙◌}
use Rattle.std.specs.Fmt.{signed_decimal}
use Rattle.report_text.specs.Field.{line}
use Rattle.report_text.specs.Codes.{match_code}
use Rattle.report_text.proofs.Putting.{puts_same}
use Rattle.report_text.proofs.refusal_line.put_inconsistent.Goals as goal

pub returns : goal.returns
returns g c =
    let text : List ℕ → List ℤ → List ℕ → List ℕ = λ code numbers flow. line
    (codes "inconsistent" ∷ code ∷ c.args.class.now ∷ (map signed_decimal numbers ++ flow ∷ [])) in
    let code = match_code c.args.fault.now.code in
    let numbers = c.args.fault.now.numbers in
    puts_same _ c.put_line.ensures (sym (
    ap (λ (t : List ℕ). text t c.as_slice.result.now c.flow_text.result.now) c.match_code.ensures
    ∙ ap (λ (ns : List ℤ). text code ns c.flow_text.result.now) c.as_slice.ensures.same
    ∙ ap (λ (t : List ℕ). text code numbers t) c.flow_text.ensures))
