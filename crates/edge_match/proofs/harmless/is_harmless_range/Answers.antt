use Rattle.edge_match.proofs.HarmlessParts.{range_by_parts}
use Rattle.edge_match.proofs.harmless.is_harmless_range.Goals as goal

pub returns : goal.returns
returns c = range_by_parts c.args.range.now c.is_harmless_step.result c.if-not-is_harmless.ensures c.if-not-is_harmless-2.ensures c.is_harmless_step.ensures
