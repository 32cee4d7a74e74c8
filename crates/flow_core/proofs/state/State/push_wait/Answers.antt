use Rattle.std.proofs.Common.{◌≡◌, ◌++◌, [], ◌∷◌, ap, sym, ◌∙◌, is_some, None, true, inl, inr, arith}
use Rattle.flow_meaning.specs.declared.outcome.WaitRow.{WaitRow}
use Rattle.flow_core.specs.Arrivals.{edge_count_to}
use Rattle.flow_core.specs.RunState.{RunState, machine, mark_of}
use Rattle.list_lemmas.proofs.Options.{none_of}
use Rattle.flow_core.proofs.Rows.{claimed_waits, no_wait, one_wait, row_is, waits_not, waits_so}
use Rattle.flow_core.proofs.state.State.push_wait.Goals as goal

pub returns-then-contains_key : goal.returns-then-contains_key
returns-then-contains_key c =
    let r = c.args.self.now in
    let t = c.args.t.now in
    let there : is_some (mark_of r t) ≡ true = sym (c.if-contains_key.ensures ∙ ap (λ (s : RunState). is_some (mark_of s t)) c.self.view_is) in
    no_wait c.args.m.now (machine r) t c.args.rows.now.items (claimed_waits c.args.m.now c.requires.fits.0 c.requires.consistent r c.requires.fits.1 t there)

pub returns-then-arrived-eq0 : goal.returns-then-arrived-eq0
returns-then-arrived-eq0 c =
    let r = c.args.self.now in
    let t = c.args.t.now in
    let none : mark_of r t ≡ None = none_of (mark_of r t) (sym (c.if-contains_key.ensures ∙ ap (λ (s : RunState). is_some (mark_of s t)) c.self.view_is)) in
    let sent : c.number_at-arrived.result ≡ edge_count_to t r.sends =
    c.number_at-arrived.ensures ∙ c.self.invariant.counts t (ap (λ (s : RunState). mark_of s t) c.self.view_is ∙ none)
    ∙ ap (λ (s : RunState). edge_count_to t s.sends) c.self.view_is in
    no_wait c.args.m.now (machine r) t c.args.rows.now.items
    (waits_not c.args.m.now c.requires.fits.0 c.requires.consistent r c.requires.fits.1 t c.requires.task none
    c.number_at-arrived.result c.goal-goal.result sent c.goal-goal.ensures (inl (omega arith)))

pub returns-then-arrived-goal : goal.returns-then-arrived-goal
returns-then-arrived-goal c =
    let r = c.args.self.now in
    let t = c.args.t.now in
    let none : mark_of r t ≡ None = none_of (mark_of r t) (sym (c.if-contains_key.ensures ∙ ap (λ (s : RunState). is_some (mark_of s t)) c.self.view_is)) in
    let sent : c.number_at-arrived.result ≡ edge_count_to t r.sends =
    c.number_at-arrived.ensures ∙ c.self.invariant.counts t (ap (λ (s : RunState). mark_of s t) c.self.view_is ∙ none)
    ∙ ap (λ (s : RunState). edge_count_to t s.sends) c.self.view_is in
    no_wait c.args.m.now (machine r) t c.args.rows.now.items
    (waits_not c.args.m.now c.requires.fits.0 c.requires.consistent r c.requires.fits.1 t c.requires.task none
    c.number_at-arrived.result c.goal-goal.result sent c.goal-goal.ensures (inr (omega arith)))

pub returns : goal.returns
returns c =
    let r = c.args.self.now in
    let t = c.args.t.now in
    let none : mark_of r t ≡ None = none_of (mark_of r t) (sym (c.if-contains_key.ensures ∙ ap (λ (s : RunState). is_some (mark_of s t)) c.self.view_is)) in
    let sent : c.number_at-arrived.result ≡ edge_count_to t r.sends =
    c.number_at-arrived.ensures ∙ c.self.invariant.counts t (ap (λ (s : RunState). mark_of s t) c.self.view_is ∙ none)
    ∙ ap (λ (s : RunState). edge_count_to t s.sends) c.self.view_is in
    let waits = waits_so c.args.m.now c.requires.fits.0 c.requires.consistent r c.requires.fits.1 t c.requires.task none
    c.number_at-arrived.result c.goal-goal.result sent c.goal-goal.ensures (omega arith) (omega arith) in
    let row : record { task = c.copy.result; arrived = c.number_at-arrived.result; goal = c.goal-goal.result }
    ≡ record { task = t; arrived = c.number_at-arrived.result; goal = c.goal-goal.result } =
    λ i. record { task = c.copy.ensures i; arrived = c.number_at-arrived.result; goal = c.goal-goal.result } in
    c.in_ok-push.ensures.items ∙ ap (λ (w : WaitRow). c.args.rows.now.items ++ w ∷ [])
    (row ∙ row_is c.args.m.now c.requires.fits.0 c.requires.consistent r c.requires.fits.1 t c.requires.task none
    c.number_at-arrived.result c.goal-goal.result sent c.goal-goal.ensures)
    ∙ one_wait c.args.m.now (machine r) t c.args.rows.now.items waits
