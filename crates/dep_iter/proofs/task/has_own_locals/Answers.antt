use Rattle.std.proofs.Common.{◌≡◌, Bool, true, false, refl, sym, ◌∙◌}
use Rattle.std.specs.Bool.{OnTrue}
use Rattle.dep_iter.proofs.OwnLocals.{own_locals}
use Rattle.dep_iter.proofs.task.has_own_locals.Goals as goal

on_true : {P : Type 0} (b : Bool) → (b ≡ true → P) → OnTrue b P
on_true true f = f refl
on_true false f = tt

pub returns-in-Some : goal.returns-in-Some
returns-in-Some c =
    let P = c.args.plan.now in
    let t = c.args.t.now in
    let s = c.in-Some.space.now in
    on_true c.params_are_locals.result
    (λ h. own_locals P t s c.in-Some.ensures.0 (sym c.params_are_locals.ensures ∙ h))
