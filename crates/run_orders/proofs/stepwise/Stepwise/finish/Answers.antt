use Rattle.run_orders.proofs.Tried.{after_end}
use Rattle.run_orders.proofs.stepwise.Stepwise.finish.Goals as goal

pub invariant_of-self-2 : goal.invariant_of-self-2
invariant_of-self-2 c =
    let ended = c.in_ok-_trap.ensures.ok in
    (c.self.invariant.0, c.finish.ensures.fits, after_end _ _ _ ended.end _ ended.marked c.self.invariant.2)
