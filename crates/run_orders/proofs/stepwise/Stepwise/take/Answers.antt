use Rattle.run_orders.proofs.Tried.{after_send}
use Rattle.run_orders.proofs.stepwise.Stepwise.take.Goals as goal

pub invariant_of-self : goal.invariant_of-self
invariant_of-self c =
    (c.self.invariant.0, c.send.ensures.fits _ c.self.invariant.1, after_send _ _ _ _ c.send.result c.send.ensures.state c.send.ensures.err c.self.invariant.2)

pub invariant_of-self-in-Write : goal.invariant_of-self-in-Write
invariant_of-self-in-Write c = (
  c.self-in-Write.invariant.0,
  c.send-in-Write.ensures.fits _ c.self-in-Write.invariant.1,
  after_send _ _ _ _
      c.send-in-Write.result c.send-in-Write.ensures.state c.send-in-Write.ensures.err c.self-in-Write.invariant.2,
)
