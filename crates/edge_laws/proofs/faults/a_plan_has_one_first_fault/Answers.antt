use Rattle.edge_match.proofs.CallerLemmas.{one_first}
use Rattle.edge_laws.proofs.faults.a_plan_has_one_first_fault.Goals as goal

pub returns : goal.returns
returns c = one_first
