use Rattle.std.proofs.Common.{length}
use Rattle.cert_check.proofs.sources.+any_names.Given as goal

abbrev pub decreases-any_names : goal.decreases-any_names
decreases-any_names l = length l.deps.now
