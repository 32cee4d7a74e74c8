use Rattle.std.proofs.Common.{[], sym, subst}
use Rattle.chain_cert.specs.Growing.{HasGrown}
use Rattle.chain_cert.proofs.Grown.{opened}
use Rattle.chain_cert.proofs.order_builder.start.Goals as goal

pub returns : goal.returns
returns c =
    let P = c.args.m.now in
    let order = c.in_ok-order.order.items in
    subst (HasGrown P [] order) (sym c.new.ensures.empty) (opened P c.plan_is_consistent.ensures order c.in_ok-order.ensures)
