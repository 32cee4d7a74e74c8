use Rattle.std.proofs.Common.{◌≡◌, sym}
use Rattle.std.proofs.lemmas.Bool.{OnTrue_at, OnTrue_from}
use Rattle.dep_iter.specs.Tasks.{IsTask, locals_of}
use Rattle.dep_iter.proofs.Fitting.{locals_with-only}
use Rattle.dep_iter.proofs.task.find_locals.Goals as goal

pub returns-clause-found : goal.returns-clause-found
returns-clause-found c =
    let params = c.args.t.now.params in
    let s = c.in-Some.space.now in
    let well = c.in-Some.ensures.1 in
    let locals = c.find_locals.new.locals in
    let found = rw c.params.ensures.same at c.find_locals.ensures.found in
    let one = c.a_task_has_one_list_of_locals.ensures.one s params in
    OnTrue_from c.find_locals.result (IsTask c.args.plan.now c.args.t.now × (locals ≡ locals_of c.args.plan.now c.args.t.now)) (λ yes.
    let w = OnTrue_at yes found in
    rw c.in-Some.ensures.0
    (w.0, sym (locals_with-only s params locals w.1 (λ others u. one locals others well w.1 u))))

pub returns-clause-none : goal.returns-clause-none
returns-clause-none c =
    rw c.in-Some.ensures.0 (rw c.params.ensures.same at c.find_locals.ensures.none)
