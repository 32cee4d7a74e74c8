use Rattle.body_laws.proofs.MoreUnits.{does_the_same}
use Rattle.body_laws.proofs.laws.more_units_change_nothing.Goals as goal

pub returns : goal.returns
returns c = does_the_same
