use Rattle.std.specs.List.{list_all}
use Rattle.dep_iter.specs.Well.{is_well_flow}
use Rattle.edge_match.proofs.HarmlessParts.{both_pass}
use Rattle.edge_match.proofs.harmless.+are_harmless_flows.Goals as goal

pub returns : goal.returns
returns m c =
    let flow = c.in-Some.flow.now in
    let others = c.in-Some.others.now in
    rw c.in-Some.ensures.cases.0
    (both_pass (λ env. is_well_flow env flow) (λ env. list_all (is_well_flow env) others) c.are_harmless_flows.result c.if-not-is_harmless_flow.ensures
    c.are_harmless_flows.ensures)
