use Rattle.edge_walk.proofs.Edges.{ins, outs}
use Rattle.edge_walk.proofs.laws.ties_are_edges.Goals as goal

pub returns : goal.returns
returns c = record { ins = ins; outs = outs }
