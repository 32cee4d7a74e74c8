use Rattle.std.proofs.Common.{ap, ◌∙◌}
use Rattle.std.proofs.lemmas.Result.{IfOk-weaker}
use Rattle.flow_core.specs.RunState.{RunState}
use Rattle.flow_core.specs.Rows.{writes_among}
use Rattle.flow_core.proofs.Kept.{writes_of_written}
use Rattle.flow_core.proofs.state.State.into_writes.Goals as goal

pub returns : goal.returns
returns c =
    let are = ap writes_among c.self.invariant.tiles.writes ∙ writes_of_written c.self.inside.sent.sends
    ∙ ap (λ (r : RunState). writes_among r.sends) c.self.view_is in
    IfOk-weaker c.into_writes.result _ _ (λ writes e. e ∙ are) c.into_writes.ensures
