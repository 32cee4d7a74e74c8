use Rattle.ready_deques.proofs.Settled.{settled}
use Rattle.ready_deques.proofs.hands.Hands.settle.Goals as goal

pub returns : goal.returns
returns c id =
    let own = c.self.inside.own in
    let end = c.into_end-end.result in
    settled id _ own end _ _ c.args.others.items c.gather.new.own.taken _ c.self.view_is c.self.invariant.0
    (c.into_end-end.ensures.counts id) (c.gather.ensures.taken id) c.gather.ensures.same.1 (c.audit.ensures.bounded id)
