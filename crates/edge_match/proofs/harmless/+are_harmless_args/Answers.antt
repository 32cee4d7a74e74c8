use Rattle.std.specs.List.{list_all}
use Rattle.dep_iter.specs.Well.{has_arg}
use Rattle.edge_match.proofs.HarmlessParts.{both_pass}
use Rattle.edge_match.proofs.harmless.+are_harmless_args.Goals as goal

pub returns : goal.returns
returns m c =
    let arg = c.in-Some.arg.now in
    let others = c.in-Some.others.now in
    rw c.in-Some.ensures.cases.0
    (both_pass (λ env. has_arg env arg) (λ env. list_all (has_arg env) others) c.are_harmless_args.result
    c.if-not-is_harmless_arg.ensures c.are_harmless_args.ensures)
