use Rattle.std.proofs.Common.{◌+◌, ap, refl, arith}
use Rattle.edge_match.proofs.SentItems.{sent_edges}
use Rattle.edge_match.proofs.outs.Outs.add_edges.Goals as goal

pub returns : goal.returns
returns c = λ colls es k.
    let few = c.if-count-items.false in
    let n = k.0 (omega arith) in
    sent_edges colls c.args.self.now _ es (ap (λ i. c.args.self.now.edges + i) n) refl refl
