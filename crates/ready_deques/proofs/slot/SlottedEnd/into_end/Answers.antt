use Rattle.ready_deques.proofs.Slotted.{without_slot}
use Rattle.ready_deques.proofs.slot.SlottedEnd.into_end.Goals as goal

pub returns-clause-counts : goal.returns-clause-counts
returns-clause-counts c = rw (← c.self.view_is) (λ id. without_slot _ _ _ _ id c.self.invariant.1)
