use Rattle.std.proofs.Common.{◌≡◌, take}
use Rattle.type_check.specs.Bodies.{local_names}
use Rattle.type_check.proofs.scope.local_names.Given as goal

abbrev pub invariant-loop-definition : goal.invariant-loop-definition
invariant-loop-definition l = l.names ≡ local_names (take l.definition-index l.defs)
