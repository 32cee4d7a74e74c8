use Rattle.std.proofs.Common.{◌++◌}
use Rattle.ready_deques.specs.Hands.{SameWorker}
use Rattle.worker_core.specs.Sending.{HasSentFrom}
use Rattle.worker_core.specs.Waiting.{AreOfTheirShards, items_of}
use Rattle.worker_core.proofs.sending.send_all.Given as goal

abbrev pub invariant-loop-item : goal.invariant-loop-item
invariant-loop-item g l = record {
  can_next : (goal.iterator-loop-item g).can_next l.item-iterator;
  is_finite : (goal.iterator-loop-item g).is_finite l.item-iterator;
  pass : g.B.Board.is_pass l.context.board.now l.pass;
  hands : SameWorker l.fn.hands l.hands;
  shards : AreOfTheirShards (g.B.Board.placement l.context.board.now) l.outbox.waiting.items;
  so_far : HasSentFrom (g.B.Board.plan l.context.board.now) (g.B.Board.job_data l.context.board.now)
      l.initial.item-iterator (items_of l.outbox.waiting.items ++ l.item-iterator) (g.B.Board.shown l.initial.pass)
      (g.B.Board.shown l.pass);
}
