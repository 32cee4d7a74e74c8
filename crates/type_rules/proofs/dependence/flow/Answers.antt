use Rattle.std.proofs.Common.{◌∙◌, sym, ap, Some}
use Rattle.type_rules.specs.Dependences.{flow_from}
use Rattle.type_rules.proofs.Joins.{of_both}
use Rattle.type_rules.proofs.dependence.flow.Goals as goal

pub returns-in_ok-flow_with-in-Ok : goal.returns-in_ok-flow_with-in-Ok
returns-in_ok-flow_with-in-Ok c =
    let h = of_both (flow_from c.args.flow.now) c.in-Ok.datatype c.in-Ok.deps _ _ _
    (c.in-Ok.ensures _ _ _ _ c.flow_type.ensures c.both_directions-deps.ensures) in
    (h.0 ∙ ap (λ x. Some x) (sym c.in_ok-flow_with-in-Ok.ensures), h.1)
