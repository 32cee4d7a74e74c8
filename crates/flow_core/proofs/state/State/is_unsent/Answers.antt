use Rattle.std.proofs.Common.{◌≡◌, false, not, subst, sym, ap, ◌∙◌, IsTrue, ◌↔◌}
use Rattle.std.proofs.lemmas.Bool.{false≢true}
use Rattle.flow_core.specs.Kept.{is_read}
use Rattle.flow_core.specs.RunState.{RunState}
use Rattle.flow_core.specs.SentItems.{IsUnsent}
use Rattle.flow_core.proofs.Fitting.{claimed_sent, unclaimed_unread}
use Rattle.flow_core.proofs.Kept.{unkept}
use Rattle.flow_core.proofs.state.State.is_unsent.Goals as goal

pub returns-then-goes_to_claimed : goal.returns-then-goes_to_claimed
returns-then-goes_to_claimed c = (
  λ k. absurd (false≢true k),
  λ un. absurd (claimed_sent c.args.m.now c.requires.fits.0 c.plan_is_consistent.ensures
      c.args.self.now c.requires.fits.1 c.args.item.now c.requires.output (sym c.if-goes_to_claimed.ensures) un),
)

pub returns : goal.returns
returns c =
    let i = c.args.item.now in
    let unread : is_read c.self.inside.claims.entries i ≡ false = ap (λ (r : RunState). is_read r.claims i)
    c.self.view_is ∙ unclaimed_unread c.args.self.now i (sym c.if-goes_to_claimed.ensures) in
    subst (λ (r : RunState). IsTrue (not c.is_kept.result) ↔ IsUnsent r.sends i) c.self.view_is
    (unkept c.self.inside.claims.entries c.self.inside.sent c.self.invariant.tiles i unread c.is_kept.result c.is_kept.ensures)
