use Rattle.body_laws.proofs.Renaming.{declared_same, looped_same}
use Rattle.body_laws.proofs.laws.another_name_changes_nothing.Goals as goal

pub returns-clause-declared : goal.returns-clause-declared
returns-clause-declared c = declared_same

pub returns-clause-looped : goal.returns-clause-looped
returns-clause-looped c = looped_same
