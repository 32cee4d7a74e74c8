use Rattle.std.proofs.Common.{◌≡◌, ap, ◌∙◌}
use Rattle.flow_core.specs.Arrivals.{edge_count_to}
use Rattle.flow_core.specs.RunState.{RunState, mark_of}
use Rattle.flow_core.proofs.Fitting.{counted}
use Rattle.flow_core.proofs.state.State.has_all.Goals as goal

pub returns : goal.returns
returns c = λ G fits.
    let t = c.args.t.now in
    let sent : c.number_at.result ≡ edge_count_to t c.args.self.now.sends =
    c.number_at.ensures ∙ c.self.invariant.counts t (ap (λ (r : RunState). mark_of r t) c.self.view_is
    ∙ c.requires.unclaimed) ∙ ap (λ (r : RunState). edge_count_to t r.sends) c.self.view_is in
    counted c.args.m.now G c.plan_is_consistent.ensures c.args.self.now fits t c.requires.task c.requires.unclaimed
    c.number_at.result c.args.goal sent c.requires.goal
