use Rattle.std.proofs.Common.{◌∷◌, [], length-append, length, reverse, sym, ◌∙◌, subst, ap, arith}
use Rattle.chain_cert.proofs.Tracing.{IsChainWith, IsTracing, trace_end, trace_next, trace_room, trace_start}
use Rattle.chain_cert.proofs.longest.printed_chain.Goals as goal

pub loop-next-init : goal.loop-next-init
loop-next-init c = subst (λ l. IsTracing c.args.m.now c.args.weights.now l c.last_task-next.result)
    (sym c.new-back.ensures.items) (trace_start c.args.m.now c.args.weights.now c.last_task-next.result
    c.last_task-next.ensures)

pub step_back-next-requires-clause-task : goal.step_back-next-requires-clause-task
step_back-next-requires-clause-task c = (subst (λ o. IsChainWith c.args.m.now o (reverse c.loop-next.back.items)) c.in-Some.is c.loop-next.invariant.chain).0

pub loop-next-smaller : goal.loop-next-smaller
loop-next-smaller c =
    let w = subst (IsTracing c.args.m.now c.args.weights.now c.loop-next.back.items) c.in-Some.is c.loop-next.invariant in
    let room = trace_room c.args.m.now c.args.weights.now c.requires.no_cycle c.loop-next.back.items c.in-Some.t w in
    omega (arith, room, ap length c.in_ok-push.ensures.items, length-append c.loop-next.back.items (c.in-Some.t ∷ []))

pub loop-next-preserved : goal.loop-next-preserved
loop-next-preserved c =
    let P = c.args.m.now in
    let ws = c.args.weights.now in
    let w = subst (IsTracing P ws c.loop-next.back.items) c.in-Some.is c.loop-next.invariant in
    subst (λ l. IsTracing P ws l c.step_back-next.result) (sym c.in_ok-push.ensures.items)
    (trace_next P ws c.plan_is_consistent.ensures c.loop-next.back.items c.in-Some.t c.step_back-next.result w
    c.step_back-next.ensures)

pub returns : goal.returns
returns c =
    let w = subst (IsTracing c.args.m.now c.args.weights.now c.loop-next.back.items) c.in_default.is c.loop-next.invariant in
    record {
      back = c.loop-next.back.items;
      is_back = trace_end c.args.m.now c.args.weights.now c.loop-next.back.items w;
      turned = c.of.ensures ∙ c.reverse.ensures.items;
    }
