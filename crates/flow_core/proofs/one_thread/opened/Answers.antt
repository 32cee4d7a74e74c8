use Rattle.std.proofs.Common.{[], sym, subst}
use Rattle.dep_iter.specs.Tasks.{all_tasks}
use Rattle.flow_core.specs.Fits.{Fits}
use Rattle.flow_core.specs.OneThread.{HasDone, IsOpening}
use Rattle.flow_core.proofs.OneThread.{all_opened}
use Rattle.flow_core.proofs.Opening.{opens_first}
use Rattle.flow_core.proofs.one_thread.opened.Goals as goal

pub claim_roots-requires-clause-fits : goal.claim_roots-requires-clause-fits
claim_roots-requires-clause-fits c = (c.args.given.now, c.start.ensures.fits c.args.m.now c.args.given.now)

pub claim_roots-requires-clause-opening : goal.claim_roots-requires-clause-opening
claim_roots-requires-clause-opening c = subst IsOpening (sym c.start.ensures.state) opens_first

pub returns-clause-between : goal.returns-clause-between
returns-clause-between c =
    let P = c.args.m.now in
    let G = c.args.given.now in
    let r = c.claim_roots.new.runner.run in
    let done = subst (λ a. HasDone P (all_tasks P) [] a c.claim_roots.new.runner.run) c.start.ensures.state (c.in_ok-claim_roots.ensures.done) in
    all_opened P G r c.claim_roots.new.runner.running.items (subst (Fits P G) c.start.ensures.state
    (c.start.ensures.fits P G)) done c.in_ok-claim_roots.ensures.running
