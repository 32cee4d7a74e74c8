use Rattle.std.proofs.Common.{refl, subst, ◌∙◌}
use Rattle.worker_core.specs.Claiming.{GotLoggedOrQuiet, HasGotLogged}
use Rattle.worker_core.proofs.WorkedSteps.{logged_claims, nothing_done, one_task_more}
use Rattle.worker_core.proofs.worker.run_all.Goals as goal

pub loop-ran-init : goal.loop-ran-init
loop-ran-init g c =
    let P = g.B.Board.plan c.args.post.now.board.now in
    let G = g.B.Board.job_data c.args.post.now.board.now in
    record {
      pass = c.requires.pass;
      hands = (refl, refl);
      bench = c.requires.bench;
      worked = nothing_done P G (g.B.Board.placement c.args.post.now.board.now)
          (g.G.Gate.lets c.args.post.now.gate.now c.args.post.now.worker) g.L.Log.keeps
          (g.B.Board.shown c.args.pass.now) (g.L.Log.entries c.args.log.now) c.requires.idle;
    }

pub loop-ran-preserved : goal.loop-ran-preserved
loop-ran-preserved g c =
    let P = g.B.Board.plan c.args.post.now.board.now in
    let G = g.B.Board.job_data c.args.post.now.board.now in
    let of = g.B.Board.placement c.args.post.now.board.now in
    let keeps = g.L.Log.keeps in
    let v = g.B.Board.shown c.args.pass.now in
    let w = g.B.Board.shown c.loop-ran.pass in
    let x = g.B.Board.shown c.claim_next.new.pass in
    let y = g.B.Board.shown c.run_found.new.pass in
    let old = g.L.Log.entries c.args.log.now in
    let mid = g.L.Log.entries c.loop-ran.log in
    let new = g.L.Log.entries c.claim_next.new.log in
    let got : HasGotLogged P G of keeps c.claim_next.new.found w x mid new =
    subst (λ b. GotLoggedOrQuiet P G of keeps b c.claim_next.new.found w x mid new) c.if-got.true
    c.in_ok-got.ensures.found in
    record {
      pass = c.in_ok-run_found.ensures.pass;
      hands = (
        c.in_ok-run_found.ensures.hands.0 ∙ c.in_ok-got.ensures.hands.0
            ∙ c.loop-ran.invariant.hands.0,
        c.in_ok-run_found.ensures.hands.1 ∙ c.in_ok-got.ensures.hands.1
            ∙ c.loop-ran.invariant.hands.1,
      );
      bench = c.in_ok-run_found.ensures.bench;
      worked = one_task_more P G of (g.G.Gate.lets c.args.post.now.gate.now c.args.post.now.worker) keeps c.loop-ran.ran
          c.claim_next.new.found v w x y old mid new c.loop-ran.invariant.worked got c.in_ok-run_found.ensures.some
          c.in_ok-run_found.ensures.run c.in_ok-run_found.ensures.gate;
    }

pub returns-in_err-run_found-clause-logged : goal.returns-in_err-run_found-clause-logged
returns-in_err-run_found-clause-logged g c =
    let P = g.B.Board.plan c.args.post.now.board.now in
    let G = g.B.Board.job_data c.args.post.now.board.now in
    let of = g.B.Board.placement c.args.post.now.board.now in
    let keeps = g.L.Log.keeps in
    let v = g.B.Board.shown c.args.pass.now in
    let w = g.B.Board.shown c.loop-ran.pass in
    let x = g.B.Board.shown c.claim_next.new.pass in
    let y = g.B.Board.shown c.run_found.new.pass in
    let old = g.L.Log.entries c.args.log.now in
    let mid = g.L.Log.entries c.loop-ran.log in
    let new = g.L.Log.entries c.claim_next.new.log in
    let got : HasGotLogged P G of keeps c.claim_next.new.found w x mid new =
    subst (λ b. GotLoggedOrQuiet P G of keeps b c.claim_next.new.found w x mid new) c.if-got.true
    c.in_ok-got.ensures.found in
    logged_claims P G of (g.G.Gate.lets c.args.post.now.gate.now c.args.post.now.worker) keeps c.loop-ran.ran
    c.claim_next.new.found v w x y old mid new c.loop-ran.invariant.worked got c.run_found.ensures.some
