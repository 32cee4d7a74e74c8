use Rattle.std.proofs.Common.{take, flat_map}
use Rattle.type_rules.specs.Returns.{ReturnsChecked, each}
use Rattle.type_rules.specs.Definitions.{parameter_faults, parameter_of}
use Rattle.type_rules.proofs.definition.parameters.Given as goal

abbrev pub invariant-loop-param : goal.invariant-loop-param
invariant-loop-param l = ReturnsChecked l.parts (each (parameter_of l.definitions) (take l.param-index l.params))
    (flat_map (parameter_faults l.definitions) (take l.param-index l.params))
