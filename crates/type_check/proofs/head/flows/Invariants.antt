use Rattle.std.proofs.Common.{take, flat_map}
use Rattle.type_rules.specs.Contexts.{job_of}
use Rattle.type_rules.specs.Returns.{ReturnsChecked}
use Rattle.type_rules.specs.Dependences.{flow_faults}
use Rattle.type_check.specs.Classes.{flows_of}
use Rattle.type_check.proofs.head.flows.Given as goal

abbrev pub invariant-loop-each : goal.invariant-loop-each
invariant-loop-each l = ReturnsChecked l.parts
    (flows_of (job_of l.context) l.context.seen.now (take l.each-index l.flows))
    (flat_map (flow_faults (job_of l.context) l.context.seen.now) (take l.each-index l.flows))
