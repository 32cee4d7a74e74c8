use Rattle.std.proofs.Common.{◌≡◌, ap, ◌∙◌}
use Rattle.dep_table.specs.Receipts.{ReceiptView}
use Rattle.ptg_top.proofs.TableRuns.{closed_is_run}
use Rattle.ptg_top.proofs.Traced.{ran_tasks, traced_by}
use Rattle.ptg_top.proofs.tracing.trace.Goals as goal

-- the tasks are those of the plan of the table
pub trace_text-requires : goal.trace_text-requires
trace_text-requires g c =
    let closed : c.in_ok-tasks.closed.job.matched ≡ c.in_ok-prepared.prepared.job.matched = rw c.in_ok-tasks.ensures.job in
    let plan = c.plan.ensures.same ∙ (c.matched.ensures ∙ (ap (λ (r : ReceiptView). r.plan) c.in_ok-_outcome.ensures.receipt ∙ closed)) in
    ran_tasks _ c.plan.result.now _ c.in_ok-tasks.tasks.items c.as_slice.result.now plan c.as_slice.ensures.value c.in_ok-tasks.ensures.order

pub returns-clause-trace : goal.returns-clause-trace
returns-clause-trace g c =
    let of = closed_is_run c.args.settings c.args.matched c.args.given c.in_ok-prepared.prepared c.in_ok-tasks.closed
    c.in_ok-_outcome.receipt c.in_ok-_outcome._outcome c.in_ok-prepared.ensures
    c.in_ok-tasks.ensures.job c.in_ok-tasks.ensures.passes c.in_ok-_outcome.ensures.receipt c.in_ok-_outcome.ensures.answer in
    traced_by c.args.settings c.args.matched c.args.given c.in_ok-prepared.prepared c.in_ok-_outcome.receipt
    c.in_ok-_outcome._outcome c.in_ok-tasks.tasks.items c.as_slice.result.now c.in_ok-text.text c.plan.result.now
    c.in_ok-prepared.ensures of c.in_ok-tasks.ensures.order (c.plan.ensures.same ∙ c.matched.ensures) c.as_slice.ensures.value c.in_ok-text.ensures

-- its receipt is of the job
pub returns-clause-receipt : goal.returns-clause-receipt
returns-clause-receipt g c =
    let of = closed_is_run c.args.settings c.args.matched c.args.given c.in_ok-prepared.prepared c.in_ok-tasks.closed
    c.in_ok-_outcome.receipt c.in_ok-_outcome._outcome c.in_ok-prepared.ensures
    c.in_ok-tasks.ensures.job c.in_ok-tasks.ensures.passes c.in_ok-_outcome.ensures.receipt c.in_ok-_outcome.ensures.answer in
    (of.settings, of.job)
