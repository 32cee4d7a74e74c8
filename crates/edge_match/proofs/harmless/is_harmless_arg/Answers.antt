use Rattle.edge_match.proofs.HarmlessParts.{one_by_value}
use Rattle.edge_match.proofs.harmless.is_harmless_arg.Goals as goal

pub returns-in-One : goal.returns-in-One
returns-in-One c = rw c.in-One.is (one_by_value c.in-One.e c.is_harmless.result c.is_harmless.ensures)
