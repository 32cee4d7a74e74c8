use Rattle.rank_core.proofs.Turns.{later_still}
use Rattle.rank_core.proofs.driving.drive.Goals as goal

pub returns-in_err-take_turn-clause-events : goal.returns-in_err-take_turn-clause-events
returns-in_err-take_turn-clause-events c = later_still c.args.world.now c.turns.world c.take_turn.new.world
    c.turns.invariant c.take_turn.ensures.events

pub turns-preserved : goal.turns-preserved
turns-preserved c = later_still c.args.world.now c.turns.world c.take_turn.new.world c.turns.invariant
    c.take_turn.ensures.events

pub returns-clause-events : goal.returns-clause-events
returns-clause-events c = later_still c.args.world.now c.turns.world c.take_turn.new.world c.turns.invariant
    c.take_turn.ensures.events
