use Rattle.std.proofs.Common.{◌≡◌, take}
use Rattle.type_check.specs.Bodies.{flow_names}
use Rattle.type_check.proofs.scope.flow_names.Given as goal

abbrev pub invariant-loop-flow : goal.invariant-loop-flow
invariant-loop-flow l = l.names ≡ flow_names (take l.flow-index l.flows)
