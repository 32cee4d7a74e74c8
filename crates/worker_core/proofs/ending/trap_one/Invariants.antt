use Rattle.work_board.specs.Records.{IsStill}
use Rattle.worker_core.proofs.ending.trap_one.Given as goal

abbrev pub invariant-loop : goal.invariant-loop
invariant-loop g l = record {
  pass : g.B.Board.is_pass l.post.board.now l.pass;
  still : IsStill
      (g.B.Board.shown l.fn.pass) (g.B.Board.shown l.pass);
}
