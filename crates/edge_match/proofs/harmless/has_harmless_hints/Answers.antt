use Rattle.std.specs.List.{list_all}
use Rattle.dep_iter.specs.Well.{has_priority, has_value}
use Rattle.edge_match.proofs.HarmlessParts.{both_pass}
use Rattle.edge_match.proofs.harmless.has_harmless_hints.Goals as goal

pub returns : goal.returns
returns c =
    let class = c.args.class.now in
    both_pass (λ env. list_all (has_value env) class.affinity.indices) (λ env. has_priority env class.priority) c.is_harmless_if_any.result
    (rw c.as_slice.ensures at c.if-not-are_harmless.ensures) c.is_harmless_if_any.ensures
