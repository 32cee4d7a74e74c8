use Rattle.edge_match.proofs.Added.{phase-adds}
use Rattle.edge_match.proofs.laws.all_edges_and_items_are_counted.Goals as goal

pub returns : goal.returns
returns c = phase-adds
