use Rattle.edge_match.proofs.HarmlessParts.{next_dependence}
use Rattle.edge_match.proofs.harmless.+are_harmless_dependences.Goals as goal

pub returns : goal.returns
returns m c =
    rw c.in-Some.ensures.cases.0
    (next_dependence c.in-Some.d.now c.in-Some.others.now c.are_harmless_dependences.result
    c.if-not-is_harmless_dependence.ensures c.are_harmless_dependences.ensures)
