use Rattle.std.proofs.Common.{◌<◌, sym, subst, ◌∙◌}
use Rattle.ready_deques.specs.declared.tally.Tally.{Tally}
use Rattle.ready_deques.proofs.Keeps.{forks_partless, merges}
use Rattle.ready_deques.proofs.ends.OwnerEnd.keep.Goals as goal

pub another-partless-requires : goal.another-partless-requires
another-partless-requires c = forks_partless _ _

pub absorb-requires-clause-rule : goal.absorb-requires-clause-rule
absorb-requires-clause-rule c =
    merges _ _ _ _ (c.another-partless.ensures.same.0.2 ∙ c.self.invariant.1)
    (subst (λ (t : Tally). 0 < t.parts) (sym c.another-partless.ensures.rule.0) c.self.invariant.4)
