use Rattle.trace_core.proofs.Named.{named_from_first}
use Rattle.trace_core.proofs.naming.class_named.Goals as goal

pub returns : goal.returns
returns c = named_from_first c.as_slice.result.now c.args.plan.now.classes c.args.name.now c.class_among.result c.as_slice.ensures c.class_among.ensures
