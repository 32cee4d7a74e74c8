use Rattle.std.proofs.Common.{◌∙◌}
use Rattle.name_table.proofs.Rebuilt.{one_name_more}
use Rattle.name_table.proofs.index.Index.rebuilt.Goals as goal

pub loop-number-preserved : goal.loop-number-preserved
loop-number-preserved g c = (
  one_name_more c.args.names.now c.loop-number.number c.in-Ok.next c.index-names-number.result c.loop-number.index
      c.put.new.self c.requires.once c.loop-number.invariant.0 c.loop-number-test.true c.index-names-number.is
      c.in-Ok.ensures.1 c.in_ok-put.ensures.put,
  c.put.ensures.count ∙ c.loop-number.invariant.1,
)
