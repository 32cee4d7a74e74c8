use Rattle.std.proofs.Common.{◌≡◌, ap, sym, ◌∙◌, slice_get, Some}
use Rattle.dep_iter.proofs.Fitting.{locals_with-only}
use Rattle.dep_iter.proofs.task.fill_locals.Goals as goal

pub returns : goal.returns
returns c =
    let P = c.args.plan.now in
    let params = c.args.t.now.params in
    let s = c.space.result.now in
    let e : slice_get P.spaces c.args.t.now.class ≡ Some s = ap (slice_get P.spaces) (sym c.class.ensures) ∙ c.space.ensures.space in
    let w = rw c.params.ensures.same at c.fill_locals.ensures in
    rw e (sym (locals_with-only s params c.fill_locals.new.locals w
    (λ others u. c.a_task_has_one_list_of_locals.ensures.one s params c.fill_locals.new.locals others
    c.space.ensures.well w u)))
