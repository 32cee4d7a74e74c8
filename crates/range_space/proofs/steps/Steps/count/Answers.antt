use Rattle.std.proofs.Common.{◌+◌, ◌/◌, rules, ap, sym, ◌∙◌, length, FitsSigned, w64}
use Rattle.std.proofs.lemmas.Bool.{not-false, not-true}
use Rattle.std.proofs.lemmas.Int.{to_z-of_z}
use Rattle.range_space.proofs.Stepping.{values_past, gap}
use Rattle.range_space.proofs.Members.{length_values_in}
use Rattle.range_space.proofs.steps.Steps.count.Goals as goal

pub returns-then-is_empty : goal.returns-then-is_empty
returns-then-is_empty c =
    let s = c.args.self.now in
    sym (ap length (values_past s.hi s.step s.lo (not-true _ (sym c.is_empty.ensures ∙ c.if-is_empty.true))))

pub returns : goal.returns
returns c =
    let s = c.args.self.now in
    let f : FitsSigned w64 s.lo = search rules in
    let g : FitsSigned w64 s.hi = search rules in
    let k : FitsSigned w64 s.step = search rules in
    let d = simp to_z-of_z at c.abs_diff-gap.ensures in
    let u = simp to_z-of_z at c.unsigned_abs.ensures.value in
    let n = length_values_in s.hi s.step s.lo (not-false _ (sym c.is_empty.ensures ∙ c.if-is_empty.false)) in
    ap (λ x. x + 1) (c.from.ensures ∙ ap (λ x. x / c.unsigned_abs.result) d ∙ ap (λ x. gap s.hi s.lo / x) u) ∙ sym n
