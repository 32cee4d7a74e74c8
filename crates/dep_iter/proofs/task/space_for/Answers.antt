use Rattle.std.proofs.Common.{◌≡◌, ap, sym, ◌∙◌, length, slice_get, Some, arith}
use Rattle.range_space.proofs.CallerLemmas.{arity_of_task}
use Rattle.dep_iter.proofs.task.space_for.Goals as goal

pub returns-else-as_slice-params : goal.returns-else-as_slice-params
returns-else-as_slice-params c = λ h.
    let spaces = c.args.plan.now.spaces in
    let s = c.space-space.result.now in
    let same = ap (slice_get spaces) (sym c.class-2.ensures) in
    let e : slice_get spaces c.args.t.now.class ≡ Some s = same ∙ c.space-space.ensures.space in
    let w = rw e at h in
    let given = sym (ap length c.params.ensures.same) in
    let a = ap length c.as_slice.ensures.same ∙ arity_of_task s c.args.t.now.params w ∙ given in
    absurd (omega arith)
