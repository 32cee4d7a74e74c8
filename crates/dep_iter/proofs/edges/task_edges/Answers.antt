use Rattle.dep_iter.specs.WalkLocals.{walk_locals}
use Rattle.dep_iter.proofs.Joining.{edges_of-links}
use Rattle.dep_iter.proofs.edges.task_edges.Goals as goal

pub returns : goal.returns
returns c =
    let d = c.args.direction in
    let targets = c.start.ensures.targets d (walk_locals c.args.locals) in
    rw (c.copy.ensures, c.none.ensures, targets, c.flows_of.ensures.flows, c.requires.locals)
    (edges_of-links d c.args.plan.now c.args.t.now)
