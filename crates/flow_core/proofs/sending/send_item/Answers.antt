use Rattle.std.proofs.Common.{ap, sym, ◌∙◌, subst}
use Rattle.flow_core.specs.OneThread.{running_tasks}
use Rattle.flow_core.specs.Possible.{IsOutputItem}
use Rattle.flow_core.proofs.OneThread.{edge_done, output_target, same_running, write_done}
use Rattle.flow_core.proofs.sending.send_item.Goals as goal
use Rattle.std.proofs.lemmas.Result.{on_ok_weaker}

pub claim_if_come-requires : goal.claim_if_come-requires
claim_if_come-requires c =
    let P = c.args.m.now in
    let r = c.args.runner.now.run in
    let G = c.requires.fits.0 in
    let output = subst (IsOutputItem P r) c.in-Edge.is c.requires.output in
    record {
      task = output_target P G c.plan_is_consistent.ensures r c.requires.fits.1 c.in-Edge.edge output;
      fits = (G, c.in_ok-_sent.ensures.fits G c.requires.fits.1);
      running = c.requires.running
          ∙ sym (ap running_tasks c.in_ok-_sent.ensures.state ∙ same_running r c.args.item.now c.in_ok-_sent._sent);
      goals = c.requires.goals;
    }

pub returns-in-Edge-clause-done : goal.returns-in-Edge-clause-done
returns-in-Edge-clause-done c =
    let P = c.args.m.now in
    let r = c.args.runner.now.run in
    let G = c.requires.fits.0 in
    let sent = c.in_ok-_sent.ensures in
    let last = c.claim_if_come.new.runner.run in
    rw c.in-Edge.is
    (on_ok_weaker c.claim_if_come.result
    (edge_done P G c.plan_is_consistent.ensures r c.requires.fits.1 c.in-Edge.edge c.in_ok-_sent._sent
    (rw c.in-Edge.is at (sent.exact G c.requires.fits.1)) c.send_output.new.self last (rw c.in-Edge.is at sent.state)
    sent.fits)
    c.claim_if_come.ensures.done)

pub returns-in-Write-clause-done : goal.returns-in-Write-clause-done
returns-in-Write-clause-done c =
    let P = c.args.m.now in
    let r = c.args.runner.now.run in
    let G = c.requires.fits.0 in
    let sent = c.in_ok-_sent.ensures in
    rw c.in-Write.is
    (write_done P G c.plan_is_consistent.ensures r c.requires.fits.1 c.in-Write.field-0 c.in_ok-_sent._sent
    (rw c.in-Write.is at (sent.exact G c.requires.fits.1)) c.send_output.new.self (rw c.in-Write.is at sent.state)
    sent.fits)

pub returns-in-Write-clause-running : goal.returns-in-Write-clause-running
returns-in-Write-clause-running c =
    let same = same_running c.args.runner.now.run c.args.item.now c.in_ok-_sent._sent in
    c.requires.running ∙ sym (ap running_tasks c.in_ok-_sent.ensures.state ∙ same)
