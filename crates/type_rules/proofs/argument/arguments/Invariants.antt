use Rattle.std.proofs.Common.{take, flat_map}
use Rattle.type_rules.specs.Contexts.{job_of}
use Rattle.type_rules.specs.Returns.{ReturnsChecked, each}
use Rattle.type_rules.specs.Arguments.{argument_faults, argument_of}
use Rattle.type_rules.proofs.argument.arguments.Given as goal

abbrev pub invariant-loop-arg : goal.invariant-loop-arg
invariant-loop-arg l = ReturnsChecked l.parts
    (each (argument_of (job_of l.context) l.context.seen.now) (take l.arg-index l.args))
    (flat_map (argument_faults (job_of l.context) l.context.seen.now) (take l.arg-index l.args))
