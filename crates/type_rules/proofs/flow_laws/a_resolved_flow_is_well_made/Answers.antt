use Rattle.type_rules.proofs.WellFlows.{well_flow}
use Rattle.type_rules.proofs.flow_laws.a_resolved_flow_is_well_made.Goals as goal

pub returns : goal.returns
returns c = well_flow
