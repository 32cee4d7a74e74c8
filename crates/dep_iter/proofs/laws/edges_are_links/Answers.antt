use Rattle.dep_iter.proofs.Joining.{in_edges-links, out_edges-links}
use Rattle.dep_iter.proofs.laws.edges_are_links.Goals as goal

pub returns : goal.returns
returns c = record { ins = in_edges-links; outs = out_edges-links }
