use Rattle.std.proofs.Common.{◌≡◌, ◌∷◌, rules, arith, refl, ap, sym, ◌∙◌, length, FitsSigned, w64}
use Rattle.std.proofs.lemmas.Grind.{common_steps}
use Rattle.std.proofs.lemmas.Int.{to_z-of_z}
use Rattle.range_space.specs.Values.{values_from}
use Rattle.range_space.proofs.Stepping.{values_checked, values_past}
use Rattle.range_space.proofs.values.ValuesIterator.next.Goals as goal

stepped : (c : goal.After-self-1) → c.args.self.now ≡ c.in_ok-v.v ∷ values_from c.checked_add-self-inside.result c.self.inside.hi c.self.inside.step
stepped c =
    let s = c.self.inside in
    let v = c.in_ok-v.v in
    let f : FitsSigned w64 v = search rules in
    let g : FitsSigned w64 s.hi = search rules in
    let k : FitsSigned w64 s.step = search rules in
    let e = simp to_z-of_z at c.is_within.ensures in
    let r = simp to_z-of_z at c.checked_add-self-inside.ensures in
    sym c.self.view_is ∙ ap (λ o. values_from o s.hi s.step) c.in_ok-v.was ∙ values_checked v s.hi s.step _ f g (sym e ∙ c.if-is_within.true) r

pub returns-then-is_within-clause-steps : goal.returns-then-is_within-clause-steps
returns-then-is_within-clause-steps c =
    let v = c.in_ok-v.v in
    let f : FitsSigned w64 v = search rules in
    simp to_z-of_z (stepped c)

pub returns-then-is_within-clause-goes : goal.returns-then-is_within-clause-goes
returns-then-is_within-clause-goes c = let e = stepped c in let n = ap length e in grind (arith, common_steps)

pub returns-else-is_within-clause-steps : goal.returns-else-is_within-clause-steps
returns-else-is_within-clause-steps c =
    let s = c.self.inside in
    let v = c.in_ok-v.v in
    let f : FitsSigned w64 v = search rules in
    let g : FitsSigned w64 s.hi = search rules in
    let k : FitsSigned w64 s.step = search rules in
    let e = simp to_z-of_z at c.is_within.ensures in
    (sym c.self.view_is ∙ ap (λ o. values_from o s.hi s.step) c.in_ok-v.was ∙ values_past s.hi s.step v (sym e ∙ c.if-is_within.false), refl)
