use Rattle.std.proofs.Common.{◌<◌, ◌%◌, length, arith}
use Rattle.std.proofs.lemmas.Nat.{mod_below}
use Rattle.rank_core.proofs.Turns.{delivered_later, delivered_no_more}
use Rattle.rank_core.proofs.driving.deliver_again.Goals as goal

pub returns-clause-events : goal.returns-clause-events
returns-clause-events c =
    let n = c.pick_of.result % c.messages-sent.result in
    let near : c.pick_of.result % c.messages-sent.result < length c.args.world.now.state.messages = omega (
      arith,
      mod_below c.pick_of.result c.messages-sent.result (omega (arith, c.if-sent-eq0.false)),
      c.messages-sent.ensures.sent,
    ) in
    delivered_later c.args.world.now c.deliver.new.self (c.pick_of.result % c.messages-sent.result) near
    c.deliver.result c.deliver.ensures.state c.deliver.ensures.err

pub returns-clause-no_more : goal.returns-clause-no_more
returns-clause-no_more c =
    let near : c.pick_of.result % c.messages-sent.result < length c.args.world.now.state.messages = omega (
      arith,
      mod_below c.pick_of.result c.messages-sent.result (omega (arith, c.if-sent-eq0.false)),
      c.messages-sent.ensures.sent,
    ) in
    delivered_no_more c.args.world.now c.deliver.new.self (c.pick_of.result % c.messages-sent.result) near
    c.deliver.result c.deliver.ensures.state c.deliver.ensures.err
