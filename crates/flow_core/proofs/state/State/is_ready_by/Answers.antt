use Rattle.std.proofs.Common.{◌≡◌, ap, sym, ◌∙◌, is_some, true, false}
use Rattle.flow_core.specs.RunState.{RunState, mark_of}
use Rattle.flow_core.proofs.Fitting.{claimed_already}
use Rattle.list_lemmas.proofs.Options.{none_of}
use Rattle.flow_core.proofs.state.State.is_ready_by.Goals as goal

pub returns-then-contains_key-clause-exact : goal.returns-then-contains_key-clause-exact
returns-then-contains_key-clause-exact c = λ G fits.
    let there : is_some (mark_of c.args.self.now c.args.t.now) ≡ true = sym
    (c.if-contains_key.ensures ∙ ap (λ (r : RunState). is_some (mark_of r c.args.t.now)) c.self.view_is) in
    claimed_already c.args.m.now G c.plan_is_consistent.ensures c.args.self.now fits c.args.t.now there

pub has_all-requires-clause-unclaimed : goal.has_all-requires-clause-unclaimed
has_all-requires-clause-unclaimed c =
    let t = c.args.t.now in
    let absent : is_some (mark_of c.args.self.now t) ≡ false = sym (c.if-contains_key.ensures ∙ ap (λ (r : RunState). is_some (mark_of r t)) c.self.view_is) in
    none_of (mark_of c.args.self.now t) absent
