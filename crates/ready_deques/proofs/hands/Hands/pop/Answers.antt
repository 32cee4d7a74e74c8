use Rattle.ready_deques.proofs.Accounts.{popped, popped_alone, popped_empty}
use Rattle.ready_deques.proofs.hands.Hands.pop.Goals as goal

pub returns-clause-taken : goal.returns-clause-taken
returns-clause-taken c = rw (← c.self.view_is) (popped _ _ _ _ _ _ c.self.invariant.0 c.pop.ensures)

pub returns-clause-empty : goal.returns-clause-empty
returns-clause-empty c = rw (← c.self.view_is) (popped_empty _ _ c.self.inside.own _ _ _ c.self.invariant.0 c.pop.ensures)

pub returns-clause-alone : goal.returns-clause-alone
returns-clause-alone c = rw (← c.self.view_is) (popped_alone _ _ c.self.inside.own _ _ _ c.self.invariant.0 c.self.invariant.1 c.pop.ensures)
