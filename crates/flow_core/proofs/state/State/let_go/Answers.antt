use Rattle.std.proofs.Common.{ap, ◌∙◌}
use Rattle.std.specs.Map.{lookup}
use Rattle.ptg_base.specs.TaskComparing.{same_task}
use Rattle.flow_core.specs.RunState.{RunState}
use Rattle.list_lemmas.proofs.Lookups.{turned}
use Rattle.flow_core.proofs.state.State.let_go.Goals as goal

pub returns : goal.returns
returns c = record {
  claims = ap (λ (r : RunState). r.claims) c.self.view_is;
  sends = ap (λ (r : RunState). r.sends) c.self.view_is;
  others = λ u k. c.swap_remove-tiles.ensures.updates.2 u (turned u c.args.t.now k) ∙ ap (λ (r : RunState). lookup (same_task u) r.outputs) c.self.view_is;
}
