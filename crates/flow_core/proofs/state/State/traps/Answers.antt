use Rattle.flow_core.specs.Rows.{claim_traps}
use Rattle.flow_core.proofs.Rows.{traps_differ}
use Rattle.flow_core.proofs.state.State.traps.Goals as goal

pub traps_in_task_order-requires : goal.traps_in_task_order-requires
traps_in_task_order-requires c = traps_differ c.loop-t.rows.items (claim_traps c.loop-t.t-iterator) c.args.self.now.claims c.loop-t.invariant c.requires
