use Rattle.type_rules.specs.Contexts.{job_of}
use Rattle.type_rules.specs.Arguments.{argument_faults, argument_of}
use Rattle.type_rules.proofs.Parts.{next_part}
use Rattle.type_rules.proofs.argument.arguments.Goals as goal

pub loop-arg-preserved : goal.loop-arg-preserved
loop-arg-preserved c =
    next_part (argument_of (job_of c.args.context.now) c.args.context.now.seen.now)
    (argument_faults (job_of c.args.context.now) c.args.context.now.seen.now) c.args.args.now
    c.loop-arg.arg-index c.arg-item.result c.with_part-parts.result
    c.loop-arg-test.true c.arg-item.is (c.with_part-parts.ensures _ _ _ _ c.loop-arg.invariant c.argument.ensures)
