use Rattle.ready_deques.specs.Hands.{SameWorker}
use Rattle.task_run.specs.Bench.{IsBenchOf}
use Rattle.worker_core.proofs.WorkedSteps.{IsWorked}
use Rattle.worker_core.proofs.worker.run_all.Given as goal

abbrev pub invariant-loop-ran : goal.invariant-loop-ran
invariant-loop-ran g l = record {
  pass : g.B.Board.is_pass l.post.board.now l.pass;
  hands : SameWorker l.fn.hands l.hands;
  bench : IsBenchOf (g.B.Board.plan l.post.board.now) l.bench;
  worked : IsWorked (g.B.Board.plan l.post.board.now) (g.B.Board.job_data l.post.board.now)
      (g.G.Gate.lets l.post.gate.now l.post.worker) g.L.Log.keeps l.ran (g.B.Board.shown l.fn.pass)
      (g.B.Board.shown l.pass) (g.L.Log.entries l.fn.log) (g.L.Log.entries l.log);
}
