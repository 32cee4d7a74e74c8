use Rattle.worker_core.specs.Waiting.{items_of}
use Rattle.worker_core.proofs.ItemLists.{may_rest}
use Rattle.worker_core.proofs.waiting.make_room.Goals as goal

pub try_waiting-requires-clause-may : goal.try_waiting-requires-clause-may
try_waiting-requires-clause-may g c κs within =
    let P = g.B.Board.plan c.args.context.now.board.now in
    let G = g.B.Board.job_data c.args.context.now.board.now in
    let t = c.args.context.now.at.now.task.now in
    may_rest P G t (items_of c.args.waiting.now.items) (items_of c.loop.waiting.items) (g.B.Board.shown c.args.pass.now)
    (g.B.Board.shown c.loop.pass) c.requires.may c.loop.invariant.sent
