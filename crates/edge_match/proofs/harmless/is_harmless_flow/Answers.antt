use Rattle.edge_match.proofs.HarmlessParts.{flow_by_parts}
use Rattle.edge_match.proofs.harmless.is_harmless_flow.Goals as goal

pub returns : goal.returns
returns c =
    flow_by_parts c.args.flow.now c.are_harmless_dependences-2.result (rw c.as_slice.ensures at c.if-not-are_harmless_dependences.ensures)
    (rw c.as_slice-2.ensures at c.are_harmless_dependences-2.ensures)
