use Rattle.edge_laws.proofs.Progression.{value_at}
use Rattle.edge_laws.proofs.ranges.values_are_a_progression.Goals as goal

pub returns : goal.returns
returns c = λ lo hi step index. value_at hi step index lo
