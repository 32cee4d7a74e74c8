use Rattle.ready_deques.proofs.Keeps.{merges}
use Rattle.ready_deques.proofs.ends.OwnerEnd.absorb.Goals as goal

pub absorb-requires-clause-rule : goal.absorb-requires-clause-rule
absorb-requires-clause-rule c = merges _ _ _ _ c.self.invariant.1 c.self.invariant.4
