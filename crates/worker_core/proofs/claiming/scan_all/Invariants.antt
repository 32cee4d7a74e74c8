use Rattle.work_board.specs.Records.{IsStill}
use Rattle.worker_core.proofs.claiming.scan_all.Given as goal

abbrev pub invariant-loop-shard : goal.invariant-loop-shard
invariant-loop-shard g l = record {
  pass : g.B.Board.is_pass l.post.board.now l.pass;
  still : IsStill (g.B.Board.shown l.fn.pass) (g.B.Board.shown l.pass);
}
