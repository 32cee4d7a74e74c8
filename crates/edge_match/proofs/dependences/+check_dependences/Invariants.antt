use Rattle.std.proofs.Common.{◌-◌, length}
use Rattle.plan_core.specs.Flows.{dependences}
use Rattle.edge_match.proofs.dependences.+check_dependences.Given as goal

abbrev pub decreases-check_dependences : goal.decreases-check_dependences
decreases-check_dependences l = length (dependences l.direction l.at.now.flow.now) - l.k
