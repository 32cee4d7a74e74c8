use Rattle.type_rules.specs.Arguments.{range_faults}
use Rattle.type_rules.proofs.Parts.{next_rule}
use Rattle.type_rules.proofs.argument.no_ranges.Goals as goal

pub loop-arg-preserved : goal.loop-arg-preserved
loop-arg-preserved c =
    next_rule (range_faults c.args.code) c.args.args.now c.loop-arg.arg-index c.arg-item.result c.and_rules-rules.result
    c.loop-arg-test.true c.arg-item.is (c.and_rules-rules.ensures _ _ _ c.loop-arg.invariant c.no_range.ensures)
