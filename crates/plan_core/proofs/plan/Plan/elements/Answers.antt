use Rattle.plan_core.specs.WellMade.{is_element_count}
use Rattle.plan_core.proofs.Lists.{all_at}
use Rattle.plan_core.proofs.plan.Plan.elements.Goals as goal

pub returns-clause-within : goal.returns-clause-within
returns-clause-within c =
    all_at is_element_count c.args.self.now.elems c.args.datatype c.get.result.now c.args.self.now.well_made.tile_lengths c.get.ensures.value
