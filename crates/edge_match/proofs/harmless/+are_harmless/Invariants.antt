use Rattle.std.proofs.Common.{length}
use Rattle.edge_match.proofs.harmless.+are_harmless.Given as goal

abbrev pub decreases-are_harmless : goal.decreases-are_harmless
decreases-are_harmless l = length l.es.now
