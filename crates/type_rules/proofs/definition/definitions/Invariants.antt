use Rattle.std.proofs.Common.{take, []}
use Rattle.type_rules.specs.Contexts.{job_of}
use Rattle.type_rules.specs.Returns.{ReturnsChecked}
use Rattle.type_rules.specs.Definitions.{definitions_faults, definitions_of}
use Rattle.type_rules.proofs.definition.definitions.Given as goal

abbrev pub invariant-loop-i : goal.invariant-loop-i
invariant-loop-i l = ReturnsChecked l.parts (definitions_of (job_of l.context) [] (take l.i l.definitions))
    (definitions_faults (job_of l.context) l.params [] (take l.i l.definitions))
