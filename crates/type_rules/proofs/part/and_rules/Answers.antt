use Rattle.std.proofs.Common.{◌++◌, Some}
use Rattle.type_rules.proofs.Joins.{of_rules}
use Rattle.type_rules.proofs.part.and_rules.Goals as goal

pub returns-in-Ok : goal.returns-in-Ok
returns-in-Ok g c p fs gs h k = of_rules c.in-Ok.part _ p (fs ++ gs) (c.in-Ok.ensures p (Some tt) fs gs h k)
