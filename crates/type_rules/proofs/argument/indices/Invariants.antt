use Rattle.std.proofs.Common.{take, flat_map}
use Rattle.type_rules.specs.Contexts.{job_of}
use Rattle.type_rules.specs.Returns.{ReturnsChecked, each}
use Rattle.type_rules.specs.Arguments.{index_faults, index_of}
use Rattle.type_rules.proofs.argument.indices.Given as goal

abbrev pub invariant-loop-arg : goal.invariant-loop-arg
invariant-loop-arg l = ReturnsChecked l.parts
    (each (index_of (job_of l.context) l.context.seen.now) (take l.arg-index l.args))
    (flat_map (index_faults (job_of l.context) l.context.seen.now) (take l.arg-index l.args))
