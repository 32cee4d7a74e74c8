use Rattle.std.proofs.Common.{Err, ap, inl, inr}
use Rattle.edge_match.specs.declared.fault.MatchRefusal.{MatchRefusal}
use Rattle.edge_match.proofs.OneFault.{fault_or_memory}
use Rattle.edge_match.proofs.matching.match_edges.Goals as goal

pub returns-in-Err-clause-refused : goal.returns-in-Err-clause-refused
returns-in-Err-clause-refused c = λ f h.
    let P = c.args.plan in
    elim (fault_or_memory P c.in-Err.refusal f c.in-Err.ensures.refused h) [
      | inl e ↦ inl (ap (λ (r : MatchRefusal). Err (r, P)) e)
      | inr e ↦ inr (ap (λ (r : MatchRefusal). Err (r, P)) e)
    ]
