use Rattle.std.proofs.Common.{length}
use Rattle.dep_iter.proofs.well.+first_ill_flow.Given as goal

abbrev pub decreases-first_ill_flow : goal.decreases-first_ill_flow
decreases-first_ill_flow l = length l.flows.now
