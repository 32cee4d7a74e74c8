use Rattle.std.proofs.Common.{◌≡◌, None, Option, ℕ, unwrap_or, ap, sym, ◌∙◌}
use Rattle.edge_match.specs.Faults.{fault_at}
use Rattle.edge_match.specs.declared.fault.MatchCode.TheVariants as code
use Rattle.edge_match.specs.Marks.{HasValues, Is, ill_flow, mark}
use Rattle.edge_match.proofs.Parts.{fails_at_once}
use Rattle.edge_match.proofs.tasks.check_values.Goals as goal

pub returns-in-Err : goal.returns-in-Err
returns-in-Err c = λ s.
    let P = c.args.task.now.plan.now in
    let t = c.args.task.now.task.now in
    let ill = c.in-Err.ensures.ill in
    let same : c.in-Err.ill.flow ≡ ill_flow P t = sym (ap (λ (o : Option (Option ℕ)). unwrap_or o None) ill) in
    let named = c.fault_at.ensures ∙ ap (fault_at code.BadExpr t) same in
    record { after = λ b k. fails_at_once P b (mark t (ill_flow P t) (Is (HasValues t))) _ (λ h. let e = sym ill ∙ h in cc, named) }
