use Rattle.std.proofs.Common.{◌≡◌, Some, sym, ◌∙◌, ap}
use Rattle.std.proofs.lemmas.Bool.{OnTrue_at, OnTrue_from, false≢true}
use Rattle.plan_core.specs.Kinds.{is_data, kind_of}
use Rattle.dep_iter.specs.Edges.{in_edges_before}
use Rattle.edge_match.proofs.TakenEdges.{kind_of-here, taken_one}
use Rattle.edge_match.specs.Tallies.{plan_of, task_of}
use Rattle.edge_match.proofs.taking.take_edge.Goals as goal

pub returns : goal.returns
returns c =
    let at = c.args.at.now in
    let P = plan_of at in
    let t = task_of at in
    let e = c.args.edge.now in
    let before = in_edges_before P t at.number c.args.k in
    let here : kind_of P.classes e.to.class e.in_flow ≡ Some at.flow.now.kind = rw (c.requires.task, c.requires.flow)
    (kind_of-here P t at.number at.flow.now at.here) in
    OnTrue_from _ _ (λ h. taken_one P before c.args.ins.now c.add.new.self e (is_data (Some at.flow.now.kind))
    c.if-not-is_sent.ensures
    (λ k. false≢true (sym c.if-is_repeated.false ∙ c.is_repeated.ensures.1 k))
    (ap is_data here)
    (OnTrue_at h c.add.ensures.edges) (OnTrue_at h (rw c.is_data.ensures at c.add.ensures.data_edges)))
