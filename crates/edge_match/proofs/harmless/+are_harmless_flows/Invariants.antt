use Rattle.std.proofs.Common.{length}
use Rattle.edge_match.proofs.harmless.+are_harmless_flows.Given as goal

abbrev pub decreases-are_harmless_flows : goal.decreases-are_harmless_flows
decreases-are_harmless_flows l = length l.flows.now
