use Rattle.std.proofs.Common.{length}
use Rattle.cert_check.proofs.sources.+any_flow_names.Given as goal

abbrev pub decreases-any_flow_names : goal.decreases-any_flow_names
decreases-any_flow_names l = length l.flows.now
