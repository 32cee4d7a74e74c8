use Rattle.std.proofs.Common.{rules, ap, ◌∙◌, FitsSigned, w64}
use Rattle.std.proofs.lemmas.Int.{to_z-of_z}
use Rattle.range_space.specs.ListsAfter.{lists_over, lists_over_rest}
use Rattle.range_space.proofs.Stepping.{values_unfit}
use Rattle.range_space.proofs.walk.first_in_range_past.Goals as goal

pub returns-in-None-clause-none : goal.returns-in-None-clause-none
returns-in-None-clause-none c =
    let s = c.in-Ok.steps in
    let f : FitsSigned w64 c.args.v = search rules in
    let g : FitsSigned w64 s.hi = search rules in
    let k : FitsSigned w64 s.step = search rules in
    let n = simp to_z-of_z at c.in-None.ensures in
    let b = rw c.as_slice.ensures.same at c.in-Ok.ensures.steps in
    ap (λ r. lists_over_rest c.args.inner.now c.args.locals.now r c.args.v) b
    ∙ ap (lists_over c.args.inner.now c.args.locals.now) (values_unfit c.args.v s.hi s.step f g n)
