use Rattle.std.proofs.Common.{◌<◌, sym, subst}
use Rattle.ready_deques.specs.Ends.{Thief}
use Rattle.ready_deques.proofs.Keeps.{takes, finds_one}
use Rattle.ready_deques.proofs.Outcomes.{stole}
use Rattle.ready_deques.proofs.ends.ThiefEnd.try_take.Goals as goal

pub steal_as-requires-clause-takes : goal.steal_as-requires-clause-takes
steal_as-requires-clause-takes c = takes _ _ (subst (λ (f : Thief). 0 < f.parts) (sym c.self.view_is) c.requires)

pub steal_as-requires-clause-empty : goal.steal_as-requires-clause-empty
steal_as-requires-clause-empty c = finds_one _ _ _

pub returns : goal.returns
returns c = rw (← c.self.view_is) (stole _ _ _ _ _ c.self.invariant.1 c.steal_as.ensures.rule)
