use Rattle.std.proofs.Common.{sym, ◌∙◌, ap}
use Rattle.std.proofs.lemmas.Bool.{false≢true}
use Rattle.edge_match.specs.Faults.{fault_at}
use Rattle.edge_match.specs.Marks.{mark}
use Rattle.edge_match.proofs.Parts.{fails_at_once}
use Rattle.edge_match.proofs.refusing.require.Goals as goal

pub returns-else-holds-clause-checked : goal.returns-else-holds-clause-checked
returns-else-holds-clause-checked c = λ P k s u d code.
    let t = c.args.t.now in
    let named = c.fault_at.ensures ∙ ap (λ x. fault_at x t c.args.flow) (sym code) in
    record {
      after = λ b w.
          fails_at_once P b (mark t c.args.flow k) _ (λ p. false≢true (sym c.if-holds.false ∙ (d.passes b w).1 p), named);
    }
