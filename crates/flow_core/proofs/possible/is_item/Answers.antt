use Rattle.flow_core.proofs.Fitting.{edge_by, write_by}
use Rattle.flow_core.proofs.possible.is_item.Goals as goal

pub returns-in-Edge : goal.returns-in-Edge
returns-in-Edge c =
    let has = rw (c.of-from.ensures.plan, c.of-from.ensures.task, c.of.ensures) at c.has_edge.ensures in
    edge_by c.args.plan.now c.args.item.now c.in-Edge.e c.has_edge.result c.in-Edge.is has

pub returns-in-Write : goal.returns-in-Write
returns-in-Write c = write_by c.args.plan.now c.args.item.now c.in-Write.w c.write_backs.result c.is_left.result
    c.in-Write.is c.write_backs.ensures c.is_left.ensures
