use Rattle.std.proofs.Common.{ap, ◌∙◌, ◌++◌, ◌∷◌, []}
use Rattle.run_orders.proofs.Tried.{after_claim}
use Rattle.run_orders.proofs.stepwise.Stepwise.claim.Goals as goal

pub invariant_of-self-2 : goal.invariant_of-self-2
invariant_of-self-2 c =
    let added = c.in_ok-push.ensures.items ∙ ap (λ t. c.self.inside.tried.items ++ t ∷ []) c.copy.ensures in (
      c.self.invariant.0,
      c.claim.ensures.fits _ c.self.invariant.1,
      after_claim _ _ _ _ _ c.claim.result added
          c.claim.ensures.state c.claim.ensures.err c.self.invariant.2,
    )
