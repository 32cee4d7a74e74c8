use Rattle.std.proofs.Common.{rules}
use Rattle.ready_deques.proofs.Keeps.{forks}
use Rattle.ready_deques.proofs.ends.OwnerEnd.thief.Goals as goal

pub another-pass-requires : goal.another-pass-requires
another-pass-requires c = forks _ _ (search rules)
