use Rattle.std.proofs.Common.{refl}
use Rattle.std.proofs.lemmas.Bool.{false≢true}
use Rattle.flow_core.proofs.Quiet.{not_quiet_ready, quiet_by}
use Rattle.flow_core.proofs.state.State.quiescent.Goals as goal

pub returns-then-has_ready : goal.returns-then-has_ready
returns-then-has_ready c = λ G fits.
    not_quiet_ready c.args.m.now G c.plan_is_consistent.ensures c.args.self.now fits c.requires.idle (c.if-has_ready.ensures.0 refl)

pub returns : goal.returns
returns c = λ G fits.
    quiet_by c.args.m.now G c.plan_is_consistent.ensures c.args.self.now fits c.requires.idle c.has_owing.result
    (λ one. false≢true (c.if-has_ready.ensures.1 one)) c.has_owing.ensures
