use Rattle.std.proofs.Common.{◌&&◌, sym, arith}
use Rattle.list_lemmas.proofs.Places.{passes_at, slice_get_at}
use Rattle.plan_core.specs.declared.flow.FlowPlan.{FlowPlan}
use Rattle.dep_iter.specs.Links.{dependences_fit}
use Rattle.dep_iter.proofs.task_at.TaskAt.flow.Goals as goal

pub returns-clause-found : goal.returns-clause-found
returns-clause-found c =
    let flows = c.flows-flows.result.now in
    let f = c.index-flows-at.result in
    rw (sym c.flows-flows.ensures.flows) (omega arith, slice_get_at flows c.args.number f (omega arith) c.index-flows-at.is)

pub returns-clause-fit : goal.returns-clause-fit
returns-clause-fit c =
    let P = c.args.self.now.plan.now in
    let flows = c.flows-flows.result.now in
    let f = c.index-flows-at.result in
    let fits = λ (f : FlowPlan). dependences_fit P f.ins && dependences_fit P f.outs in
    let this = slice_get_at flows c.args.number f (omega arith) c.index-flows-at.is in
    passes_at fits flows c.args.number f c.flows-flows.ensures.fit this
