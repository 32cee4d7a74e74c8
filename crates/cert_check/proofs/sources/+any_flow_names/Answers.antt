use Rattle.std.proofs.Common.{sym, ◌∙◌, refl, suc}
use Rattle.std.proofs.lemmas.Bool.{false≢true}
use Rattle.cert_check.proofs.FarTasks.{flow_first, flow_rest}
use Rattle.cert_check.proofs.sources.+any_flow_names.Goals as goal

pub returns-then-any_names : goal.returns-then-any_names
returns-then-any_names t c = λ n.
    let w = rw (c.is_data.ensures, c.as_slice.ensures) at (c.any_names.ensures n) in
    rw c.in-Some.ensures.cases.0 (λ q. flow_first c.args.env.now n c.in-Some.flow.now c.in-Some.others.now c.args.far.now (w.0 c.if-any_names.true), λ h. refl)

pub returns : goal.returns
returns t c = λ n.
    let w = rw (c.is_data.ensures, c.as_slice.ensures) at (c.any_names.ensures n) in
    rw c.in-Some.ensures.cases.0
    (flow_rest c.args.env.now n c.in-Some.flow.now c.in-Some.others.now c.args.far.now c.any_flow_names.result
    (λ h. false≢true (sym c.if-any_names.false ∙ w.1 h)) (c.any_flow_names.ensures (suc n)))
