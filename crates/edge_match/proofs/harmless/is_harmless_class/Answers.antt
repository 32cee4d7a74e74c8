use Rattle.edge_match.proofs.HarmlessParts.{class_by_parts}
use Rattle.edge_match.proofs.harmless.is_harmless_class.Goals as goal

pub returns : goal.returns
returns c =
    class_by_parts c.args.class.now c.are_harmless_flows.result c.if-not-has_harmless_hints.ensures (rw c.as_slice.ensures at c.are_harmless_flows.ensures)
