use Rattle.flow_core.proofs.OneThread.{tried}
use Rattle.flow_core.proofs.claiming.claim_if_come.Goals as goal

pub returns-clause-done : goal.returns-clause-done
returns-clause-done c =
    tried c.args.m.now c.args.runner.now.run c.args.t.now c.claim_by.new.self c.in_ok-claim_by.field-0
    (c.in_ok-claim_by.ensures.exact c.requires.fits.0 c.requires.fits.1) c.in_ok-claim_by.ensures.state
    c.in_ok-claim_by.ensures.fits
