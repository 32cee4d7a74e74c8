use Rattle.edge_match.proofs.Directed.{nothing_before}
use Rattle.edge_match.proofs.flows.check_direction.Goals as goal

pub returns : goal.returns
returns c =
    let at = c.args.at.now in
    rw (nothing_before at c.args.direction, at.task.now.are_locals) at c.check_dependences.ensures
