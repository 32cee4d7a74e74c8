use Rattle.edge_match.proofs.HarmlessParts.{by_bound}
use Rattle.edge_match.proofs.harmless.is_harmless.Goals as goal

pub returns : goal.returns
returns c = rw c.is_some.ensures (by_bound c.args.e.now c.bound_of.result c.bound_of.ensures)
