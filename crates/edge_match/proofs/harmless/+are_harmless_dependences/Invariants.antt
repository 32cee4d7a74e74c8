use Rattle.std.proofs.Common.{length}
use Rattle.edge_match.proofs.harmless.+are_harmless_dependences.Given as goal

abbrev pub decreases-are_harmless_dependences : goal.decreases-are_harmless_dependences
decreases-are_harmless_dependences l = length l.deps.now
