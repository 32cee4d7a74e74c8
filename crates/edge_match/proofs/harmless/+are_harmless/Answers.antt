use Rattle.std.specs.List.{list_all}
use Rattle.dep_iter.specs.Well.{has_value}
use Rattle.edge_match.proofs.HarmlessParts.{both_pass}
use Rattle.edge_match.proofs.harmless.+are_harmless.Goals as goal

pub returns : goal.returns
returns m c =
    let e = c.in-Some.e.now in
    let others = c.in-Some.others.now in
    rw c.in-Some.ensures.cases.0
    (both_pass (λ env. has_value env e) (λ env. list_all (has_value env) others) c.are_harmless.result c.if-not-is_harmless.ensures c.are_harmless.ensures)
