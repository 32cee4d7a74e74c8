use Rattle.edge_match.proofs.HarmlessParts.{dependence_by_parts}
use Rattle.edge_match.proofs.harmless.is_harmless_dependence.Goals as goal

pub returns : goal.returns
returns c =
    dependence_by_parts c.args.d.now c.is_harmless_target_if_any.result c.if-not-is_harmless_if_any.ensures c.if-not-is_harmless_target.ensures
    c.is_harmless_target_if_any.ensures
