use Rattle.std.proofs.Common.{length}
use Rattle.edge_match.proofs.harmless.+are_harmless_args.Given as goal

abbrev pub decreases-are_harmless_args : goal.decreases-are_harmless_args
decreases-are_harmless_args l = length l.args.now
