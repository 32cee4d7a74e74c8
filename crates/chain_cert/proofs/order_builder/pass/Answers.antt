use Rattle.std.proofs.Common.{[], ap, sym, ◌∙◌, subst}
use Rattle.plan_core.specs.declared.plan.Plan.{Plan}
use Rattle.dep_iter.specs.Tasks.{IsTask}
use Rattle.dep_iter.specs.Items.{out_edges}
use Rattle.chain_cert.specs.Growing.{GrowsBy}
use Rattle.chain_cert.proofs.Orders.{legal_tasks}
use Rattle.chain_cert.proofs.Passing.{IsPassing, pass_end, pass_may, pass_next, pass_start}
use Rattle.chain_cert.proofs.order_builder.pass.Goals as goal

pub out_edges-edge-items-requires : goal.out_edges-edge-items-requires
out_edges-edge-items-requires c =
    subst (λ (p : Plan). IsTask p c.args.t.now) (sym c.plan.ensures.same)
    (legal_tasks c.args.m.now [] c.args.builder.now.order.items c.requires.1.legal c.args.t.now c.requires.2.member)

pub loop-edge-init : goal.loop-edge-init
loop-edge-init c = record { can_next = tt; is_finite = tt; passing = pass_start _ _ _ _ }

pub let_come-requires : goal.let_come-requires
let_come-requires c =
    let P = c.args.m.now in
    let order = c.args.builder.now.order.items in
    let table = c.args.builder.now.lacking.entries in
    let now = c.loop-edge.builder in
    let is = c.into_iter-edge-iterator.ensures.into_iter_gives ∙ c.out_edges-edge-items.ensures
    ∙ ap (λ (p : Plan). out_edges p c.args.t.now) c.plan.ensures.same in
    let w = subst (λ l. IsPassing P c.into_iter-edge-iterator.result l order table now.order.items now.lacking.entries)
    c.in-Some.ensures.steps c.loop-edge.invariant.passing in
    pass_may P c.plan.ensures.consistent c.requires.0 c.args.t.now c.into_iter-edge-iterator.result c.next.new.self
    c.in-Some.edge order now.order.items table now.lacking.entries c.requires.1 c.requires.2 is w

pub loop-edge-preserved : goal.loop-edge-preserved
loop-edge-preserved c =
    let P = c.args.m.now in
    let order = c.args.builder.now.order.items in
    let table = c.args.builder.now.lacking.entries in
    let now = c.loop-edge.builder in
    let w = subst (λ l. IsPassing P c.into_iter-edge-iterator.result l order table now.order.items now.lacking.entries)
    c.in-Some.ensures.steps c.loop-edge.invariant.passing in
    record {
      can_next = tt;
      is_finite = tt;
      passing = pass_next P c.into_iter-edge-iterator.result c.next.new.self c.in-Some.edge order now.order.items
          c.let_come.new.builder.order.items table now.lacking.entries c.let_come.new.builder.lacking.entries w
          c.in_ok-let_come.ensures;
    }

pub returns : goal.returns
returns c =
    let P = c.args.m.now in
    let order = c.args.builder.now.order.items in
    let table = c.args.builder.now.lacking.entries in
    let now = c.loop-edge.builder in
    let is = c.into_iter-edge-iterator.ensures.into_iter_gives ∙ c.out_edges-edge-items.ensures
    ∙ ap (λ (p : Plan). out_edges p c.args.t.now) c.plan.ensures.same in
    let w = subst (λ l. IsPassing P c.into_iter-edge-iterator.result l order table now.order.items now.lacking.entries)
    c.in-None.ensures.steps.0 c.loop-edge.invariant.passing in
    subst (λ es. GrowsBy P es order table now.order.items now.lacking.entries) is
    (pass_end P c.into_iter-edge-iterator.result order now.order.items table now.lacking.entries w)
