use Rattle.std.proofs.Common.{refl, ap, ◌∙◌}
use Rattle.plan_core.specs.declared.plan.Plan.{Plan}
use Rattle.flow_meaning.specs.Answer.{answer}
use Rattle.trace_replay.proofs.Turned.{one_missing, quiet_all}
use Rattle.trace_replay.proofs.running.judge_end.Goals as goal

pub returns-then-not-quiescent : goal.returns-then-not-quiescent
returns-then-not-quiescent c = (
  refl,
  one_missing c.args.m.now c.args.world.given c.plan_is_consistent.ensures c.args.world c.requires
      c.quiescent.result c.if-not-quiescent.true c.quiescent.ensures,
)

pub returns : goal.returns
returns c = (
  c.in_ok-outcome.ensures ∙ ap (λ (P : Plan). answer P c.args.world.given) c.requires.plan,
  quiet_all c.args.m.now
      c.args.world.given c.plan_is_consistent.ensures c.args.world c.requires
      (c.quiescent.ensures.0 c.if-not-quiescent.false),
)
