use Rattle.trace_core.proofs.Heads.{head_no_count}
use Rattle.trace_core.proofs.rows.head.Goals as goal

pub returns-in-None : goal.returns-in-None
returns-in-None c = head_no_count c.args.text.now c.in-Some.fields.now c.cut.result.0.now c.cut.result.1.now c.in-Some.ensures c.cut.ensures c.in-None.ensures
