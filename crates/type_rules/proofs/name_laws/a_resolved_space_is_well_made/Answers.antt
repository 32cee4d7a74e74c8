use Rattle.type_rules.proofs.WellSpaces.{well_space}
use Rattle.type_rules.proofs.name_laws.a_resolved_space_is_well_made.Goals as goal

pub returns : goal.returns
returns c = well_space
