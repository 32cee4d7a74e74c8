use Rattle.std.proofs.Common.{◌≡◌}
use Rattle.arrayvec.specs.ArrayVec.{array_vec_len}
use Rattle.ready_deques.specs.Hands.{SameWorker}
use Rattle.worker_core.specs.Sending.{HasSentFrom}
use Rattle.worker_core.specs.Waiting.{AreOfTheirShards, items_of, most_waiting}
use Rattle.worker_core.proofs.waiting.make_room.Given as goal

abbrev pub invariant-loop : goal.invariant-loop
invariant-loop g l = record {
  pass : g.B.Board.is_pass l.context.board.now l.pass;
  hands : SameWorker l.fn.hands l.hands;
  shards : AreOfTheirShards (g.B.Board.placement l.context.board.now) l.waiting.items;
  full : array_vec_len l.waiting ≡ most_waiting;
  sent : HasSentFrom (g.B.Board.plan l.context.board.now) (g.B.Board.job_data l.context.board.now)
      (items_of l.fn.waiting.items) (items_of l.waiting.items) (g.B.Board.shown l.fn.pass) (g.B.Board.shown l.pass);
}
