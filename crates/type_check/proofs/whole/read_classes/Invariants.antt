use Rattle.std.proofs.Common.{take}
use Rattle.type_rules.specs.Contexts.{job_of}
use Rattle.type_check.specs.Check.{AreRead}
use Rattle.type_check.proofs.whole.read_classes.Given as goal

abbrev pub invariant-loop-class : goal.invariant-loop-class
invariant-loop-class l = AreRead (job_of l.context) (take l.class-index l.classes) l.results
