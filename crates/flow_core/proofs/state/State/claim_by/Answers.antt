use Rattle.std.proofs.Common.{sym, subst, refl}
use Rattle.flow_core.specs.Fits.{Fits}
use Rattle.flow_core.proofs.Fitting.{claim_fits}
use Rattle.flow_core.proofs.state.State.claim_by.Goals as goal

pub returns-clause-fits : goal.returns-clause-fits
returns-clause-fits c = λ G fits.
    subst (Fits c.args.m.now G) (sym c.in_ok-enter_task.ensures.ok)
    (claim_fits c.args.m.now G c.is_ready_by.ensures.consistent c.args.self.now fits c.args.t.now ((c.if-not-is_ready_by.ensures.exact G fits).0 refl))
