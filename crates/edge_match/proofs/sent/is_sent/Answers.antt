use Rattle.std.proofs.Common.{refl, ◌∙◌}
use Rattle.std.proofs.lemmas.Bool.{OnTrue_from}
use Rattle.edge_match.proofs.SentItems.{by_all_dependences}
use Rattle.edge_match.proofs.sent.is_sent.Goals as goal

pub returns : goal.returns
returns c =
    let P = c.args.plan.now in
    let e = c.args.edge.now in
    let from = c.in-Some.from in
    let f = c.in-Some-flow.flow.now in
    let plan = c.in-Some.ensures.some.0 in
    let task = c.in-Some.ensures.some.1 ∙ c.near_task.ensures in
    let of_job = rw (plan, task) at from.of_job in
    let locals = rw (plan, task) at from.are_locals in
    let here = rw (plan, task, c.near_flow.ensures) at c.in-Some-flow.ensures.found.1 in
    let found = rw c.as_slice-all.ensures at (c.has_edge_before.ensures P e.from locals (refl, here)) in
    OnTrue_from c.has_edge_before.result _ (λ h. (of_job, by_all_dependences P e.from e f (refl, here) (found.0 h)))
