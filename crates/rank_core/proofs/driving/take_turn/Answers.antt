use Rattle.rank_core.proofs.Turns.{later_still}
use Rattle.rank_core.proofs.driving.take_turn.Goals as goal

pub returns-then-prefers_task-clause-events : goal.returns-then-prefers_task-clause-events
returns-then-prefers_task-clause-events c = later_still c.args.world.now c.deliver_again.new.world
    c.task_first.new.world c.deliver_again.ensures.events c.task_first.ensures.events

pub returns-clause-events : goal.returns-clause-events
returns-clause-events c = later_still c.args.world.now c.deliver_again.new.world c.message_first.new.world
    c.deliver_again.ensures.events c.message_first.ensures.events
