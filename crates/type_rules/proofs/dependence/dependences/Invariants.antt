use Rattle.std.proofs.Common.{take}
use Rattle.type_rules.specs.Contexts.{job_of}
use Rattle.type_rules.specs.Returns.{ReturnsChecked}
use Rattle.type_rules.specs.Dependences.{dependences_of, dependences_faults}
use Rattle.type_rules.proofs.dependence.dependences.Given as goal

abbrev pub invariant-loop-each : goal.invariant-loop-each
invariant-loop-each l =
    ReturnsChecked l.parts (dependences_of (job_of l.context) l.context.seen.now l.direction
    (take l.each-index l.deps)) (dependences_faults (job_of l.context) l.context.seen.now l.flow l.direction
    (take l.each-index l.deps))
