use Rattle.coll_data.proofs.ElementSums.{elements_at_most}
use Rattle.coll_data.proofs.given.Given.element_sum.Goals as goal

pub element_sum-requires : goal.element_sum-requires
element_sum-requires c = rw c.as_slice.ensures (elements_at_most _ c.self.invariant)
