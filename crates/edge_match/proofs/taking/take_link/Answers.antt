use Rattle.edge_match.proofs.taking.take_link.Goals as goal

pub returns : goal.returns
returns c = rw c.between-edge.ensures at c.take_edge.ensures
