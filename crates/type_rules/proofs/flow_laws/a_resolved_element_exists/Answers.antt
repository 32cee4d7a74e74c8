use Rattle.type_rules.proofs.Elements.{element_exists}
use Rattle.type_rules.proofs.flow_laws.a_resolved_element_exists.Goals as goal

pub returns : goal.returns
returns c = element_exists
