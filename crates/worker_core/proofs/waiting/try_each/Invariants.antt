use Rattle.std.proofs.Common.{◌-◌}
use Rattle.arrayvec.specs.ArrayVec.{array_vec_len}
use Rattle.ready_deques.specs.Hands.{SameWorker}
use Rattle.worker_core.specs.Sending.{HasSentFrom}
use Rattle.worker_core.specs.Waiting.{AreOfTheirShards, items_of}
use Rattle.worker_core.proofs.waiting.try_each.Given as goal

abbrev pub invariant-loop-index : goal.invariant-loop-index
invariant-loop-index g l = record {
  pass : g.B.Board.is_pass l.context.board.now l.pass;
  hands : SameWorker l.initial.hands l.hands;
  shards : AreOfTheirShards (g.B.Board.placement l.context.board.now) l.waiting.items;
  sent : HasSentFrom (g.B.Board.plan l.context.board.now) (g.B.Board.job_data l.context.board.now)
      (items_of l.initial.waiting.items) (items_of l.waiting.items) (g.B.Board.shown l.initial.pass)
      (g.B.Board.shown l.pass);
}

abbrev pub decreases-loop-index : goal.decreases-loop-index
decreases-loop-index g l = array_vec_len l.waiting - l.index
