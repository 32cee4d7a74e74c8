use Rattle.edge_match.proofs.OneFault.{consistent_none}
use Rattle.edge_match.proofs.laws.a_consistent_plan_has_no_fault.Goals as goal

pub returns : goal.returns
returns c = consistent_none
