use Rattle.ptg_top.proofs.Replayed.{accepted}
use Rattle.ptg_top.proofs.replaying.replay_of.Goals as goal

-- a text that is accepted is a trace
pub returns-in-Ok-clause-verdict : goal.returns-in-Ok-clause-verdict
returns-in-Ok-clause-verdict c =
    accepted c.args.matched c.args.given c.plan_is_consistent.ensures c.args.text.now c.in_ok-verdict.verdict c.in-Ok.outcome c.in-Ok.is
    c.in_ok-verdict.ensures.refused c.in_ok-verdict.ensures.answer
