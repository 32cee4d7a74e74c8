use Rattle.type_rules.specs.Definitions.{parameter_faults, parameter_of}
use Rattle.type_rules.proofs.Parts.{next_part}
use Rattle.type_rules.proofs.definition.parameters.Goals as goal

pub loop-param-preserved : goal.loop-param-preserved
loop-param-preserved c =
    next_part (parameter_of c.args.definitions.now) (parameter_faults c.args.definitions.now) c.args.params.now
    c.loop-param.param-index c.param-item.result c.with_part-parts.result
    c.loop-param-test.true c.param-item.is (c.with_part-parts.ensures _ _ _ _ c.loop-param.invariant c.parameter.ensures)
