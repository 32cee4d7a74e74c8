use Rattle.ready_deques.specs.Hands.{SameWorker}
use Rattle.worker_core.specs.Sending.{HasSentFrom}
use Rattle.worker_core.specs.Waiting.{AreOfTheirShards, items_of}
use Rattle.worker_core.proofs.waiting.send_waiting.Given as goal

abbrev pub invariant-loop : goal.invariant-loop
invariant-loop g l = record {
  pass : g.B.Board.is_pass l.context.board.now l.pass;
  hands : SameWorker l.fn.hands l.hands;
  shards : AreOfTheirShards (g.B.Board.placement l.context.board.now) l.waiting.items;
  sent : HasSentFrom (g.B.Board.plan l.context.board.now) (g.B.Board.job_data l.context.board.now)
      (items_of l.fn.waiting.items) (items_of l.waiting.items) (g.B.Board.shown l.fn.pass) (g.B.Board.shown l.pass);
}
