use Rattle.std.proofs.Common.{take, flat_map, Some}
use Rattle.type_rules.specs.Returns.{ReturnsChecked}
use Rattle.type_rules.specs.Arguments.{range_faults}
use Rattle.type_rules.proofs.argument.no_ranges.Given as goal

abbrev pub invariant-loop-arg : goal.invariant-loop-arg
invariant-loop-arg l = ReturnsChecked l.rules (Some tt) (flat_map (range_faults l.code) (take l.arg-index l.args))
