use Rattle.std.proofs.Common.{refl, sym, subst}
use Rattle.flow_core.specs.Fits.{Fits}
use Rattle.flow_core.proofs.Fitting.{output_now, goes_to_waiting, kept_for, send_fits}
use Rattle.flow_core.proofs.state.State.send_output.Goals as goal

pub enter_item-requires-clause-target : goal.enter_item-requires-clause-target
enter_item-requires-clause-target c =
    goes_to_waiting c.args.m.now c.requires.fits.0 c.plan_is_consistent.ensures c.args.self.now c.requires.fits.1 c.args.item.now
    (output_now c.args.m.now c.requires.fits.0 c.plan_is_consistent.ensures c.args.self.now c.requires.fits.1
    c.args.item.now c.requires.output (c.if-not-is_unsent.ensures.0 refl))

pub enter_item-requires-clause-kept : goal.enter_item-requires-clause-kept
enter_item-requires-clause-kept c =
    kept_for c.args.m.now c.requires.fits.0 c.plan_is_consistent.ensures c.args.self.now c.requires.fits.1
    c.args.item.now c.requires.output (c.if-not-is_unsent.ensures.0 refl)

pub returns-clause-exact : goal.returns-clause-exact
returns-clause-exact c = λ G fits. (
  λ _. output_now c.args.m.now G c.plan_is_consistent.ensures c.args.self.now fits c.args.item.now c.requires.output
      (c.if-not-is_unsent.ensures.0 refl),
  λ _. refl,
)

pub returns-clause-fits : goal.returns-clause-fits
returns-clause-fits c = λ G fits.
    subst (Fits c.args.m.now G) (sym c.in_ok-enter_item.ensures.ok)
    (send_fits c.args.m.now G c.plan_is_consistent.ensures c.args.self.now fits c.args.item.now
    (output_now c.args.m.now G c.plan_is_consistent.ensures c.args.self.now fits c.args.item.now c.requires.output (c.if-not-is_unsent.ensures.0 refl)))
