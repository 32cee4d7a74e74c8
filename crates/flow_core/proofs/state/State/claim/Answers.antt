use Rattle.std.proofs.Common.{refl, subst}
use Rattle.dep_iter.specs.Tasks.{IsTask}
use Rattle.flow_core.proofs.state.State.claim.Goals as goal

pub claim_task-requires : goal.claim_task-requires
claim_task-requires c = record { task = subst (λ P. IsTask P c.args.t.now) c.plan.ensures.same (c.if-not-is_task.ensures.0 refl) }
