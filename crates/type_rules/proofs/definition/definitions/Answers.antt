use Rattle.type_rules.specs.Contexts.{job_of}
use Rattle.type_rules.proofs.Defined.{next_definition}
use Rattle.type_rules.proofs.definition.definitions.Goals as goal

pub loop-i-preserved : goal.loop-i-preserved
loop-i-preserved c =
    next_definition (job_of c.args.context.now) c.args.params.now c.args.definitions.now c.loop-i.i c.index-definitions-i.result c.with_part-parts.result
    c.loop-i-test.true c.index-definitions-i.is (c.with_part-parts.ensures _ _ _ _ c.loop-i.invariant c.definition.ensures)
