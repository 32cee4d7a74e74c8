use Rattle.edge_match.proofs.HarmlessParts.{step_by_bound}
use Rattle.edge_match.proofs.harmless.is_harmless_step.Goals as goal

pub returns-in-Some-bound_of : goal.returns-in-Some-bound_of
returns-in-Some-bound_of c = rw c.in-Some.is (step_by_bound c.in-Some.e c.in-Some-bound_of.bound c.in-Some-bound_of.ensures)
