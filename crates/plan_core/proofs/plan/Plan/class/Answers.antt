use Rattle.std.proofs.Common.{sym}
use Rattle.plan_core.proofs.plan.Plan.class.Goals as goal

pub returns-clause-well_made : goal.returns-clause-well_made
returns-clause-well_made c =
    λ s its_space. c.args.self.now.well_made.fit c.args.n _ s (sym c.get.ensures.value) its_space
