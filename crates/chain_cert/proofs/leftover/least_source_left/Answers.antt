use Rattle.std.proofs.Common.{rules, tests, ◌∙◌}
use Rattle.std.proofs.lemmas.Iterator.{YieldsList-from_map}
use Rattle.std.proofs.lemmas.Iterator.Consumers.{YieldsList-at, YieldsList-from_filter, YieldsList-from_first, reduce_from_yields_List}
use Rattle.ptg_base.specs.declared.edge.Edge.{Edge}
use Rattle.dep_iter.specs.Edges.{in_edges, sources}
use Rattle.chain_cert.specs.Finding.{is_left}
use Rattle.chain_cert.proofs.Leasts.{lesser, least_where}
use Rattle.chain_cert.proofs.leftover.least_source_left.Goals as goal

pub returns : goal.returns
returns c =
    let edges = in_edges c.args.plan.now c.args.t.now in
    let test = is_left c.args.table.now.entries in
    let is = c.map.ensures.source ∙ c.in_edges.ensures in
    least_where test (sources c.args.plan.now c.args.t.now) c.min.result
    (reduce_from_yields_List lesser c.filter.result c.min.result c.min.ensures.ran
    (YieldsList-from_filter _ test
    (YieldsList-at c.filter.ensures.source (YieldsList-from_map _ (λ (e : Edge). e.from)
    (YieldsList-from_first (λ e. e) (λ left. left) edges is) c.map.ensures.closure (λ x r q k. search rules)))
    c.filter.ensures.closure (λ x b q k. search (rules, tests))))
