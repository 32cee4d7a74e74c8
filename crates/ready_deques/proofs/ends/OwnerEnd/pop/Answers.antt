use Rattle.ready_deques.proofs.Keeps.{pops, finds}
use Rattle.ready_deques.proofs.Outcomes.{popped}
use Rattle.ready_deques.proofs.ends.OwnerEnd.pop.Goals as goal

pub pop_as-requires-clause-lifo : goal.pop_as-requires-clause-lifo
pop_as-requires-clause-lifo c = λ _. pops _ _ c.self.invariant.4

pub pop_as-requires-clause-empty : goal.pop_as-requires-clause-empty
pop_as-requires-clause-empty c = finds _ _ c.self.invariant.1

pub returns : goal.returns
returns c = rw (← c.self.view_is) (popped _ _ _ _ _ c.pop_as.ensures.same.0.0 c.pop_as.ensures.rule)
