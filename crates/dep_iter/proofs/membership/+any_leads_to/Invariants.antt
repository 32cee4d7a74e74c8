use Rattle.std.proofs.Common.{length}
use Rattle.dep_iter.proofs.membership.+any_leads_to.Given as goal

abbrev pub decreases-any_leads_to : goal.decreases-any_leads_to
decreases-any_leads_to l = length l.deps.now
