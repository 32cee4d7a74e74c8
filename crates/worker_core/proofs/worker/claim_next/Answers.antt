use Rattle.std.proofs.Common.{◌≡◌, ◌++◌, ◌∷◌, [], ◌∙◌, subst}
use Rattle.worker_core.specs.Claiming.{GotOrQuiet, HasGot}
use Rattle.worker_core.proofs.Steps.{same_stamp}
use Rattle.worker_core.proofs.worker.claim_next.Goals as goal

pub returns-then-got-clause-found : goal.returns-then-got-clause-found
returns-then-got-clause-found g c =
    let P = g.B.Board.plan c.args.post.now.board.now in
    let G = g.B.Board.job_data c.args.post.now.board.now in
    let of = g.B.Board.placement c.args.post.now.board.now in
    let v = g.B.Board.shown c.args.pass.now in
    let w = g.B.Board.shown c.next_task.new.pass in
    let t = c.next_task.new.found.task in
    let got : HasGot P G of c.next_task.new.found v w = subst (λ b. GotOrQuiet P G of b c.next_task.new.found v w)
    c.if-got.true c.in_ok-got.ensures.found in
    let stamp : c.stamp.result ≡ got.added.stamp = same_stamp t c.next_task.new.found.arrivals v w c.stamp.result
    got.added (c.stamp.ensures t got.added.running) in
    record { got = got; noted = λ k. c.note.ensures k ∙ (λ i. c.in_ok-make_room.ensures.same i ++ (stamp i, t) ∷ []) }
