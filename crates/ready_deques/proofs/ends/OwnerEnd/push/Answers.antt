use Rattle.ready_deques.proofs.Keeps.{pushes}
use Rattle.ready_deques.proofs.ends.OwnerEnd.push.Goals as goal

pub push_as-requires-clause-pushes : goal.push_as-requires-clause-pushes
push_as-requires-clause-pushes c = pushes _ _ _ c.self.invariant.1 c.self.invariant.4
