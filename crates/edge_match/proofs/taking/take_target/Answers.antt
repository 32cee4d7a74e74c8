use Rattle.std.proofs.lemmas.Bool.{OnTrue_at, OnTrue_from}
use Rattle.dep_iter.specs.Edges.{in_edges_before}
use Rattle.edge_match.proofs.TakenEdges.{once_nil, takes_only}
use Rattle.edge_match.specs.Tallies.{plan_of, task_of}
use Rattle.edge_match.proofs.taking.take_target.Goals as goal

pub returns-then-push_only : goal.returns-then-push_only
returns-then-push_only c =
    let at = c.args.at.now in
    let only = rw c.as_slice-args.ensures at c.if-push_only.ensures in
    let taken = rw (c.new-from.ensures, c.as_slice.ensures.same) at c.take_link.ensures in
    rw c.in-Task.is
    (OnTrue_from c.take_link.result _ (λ h. takes_only at c.args.k c.in-Task.class c.in-Task.flow c.in-Task.args c.new-values.result c.push_only.new.values
    c.args.ins.now c.take_link.new.ins c.new-values.ensures only (OnTrue_at h taken)))

pub returns-in-Element : goal.returns-in-Element
returns-in-Element c =
    let at = c.args.at.now in
    let before = in_edges_before (plan_of at) (task_of at) at.number c.args.k in
    let exists = rw (c.place_of.ensures, c.as_slice-in-Element.ensures) at c.has_place.ensures in
    rw c.in-Element.is (OnTrue_from c.has_place.result _ (λ h. record { source = exists.0 h; taken = once_nil (plan_of at) before c.args.ins.now }))

pub returns-in-New : goal.returns-in-New
returns-in-New c =
    let at = c.args.at.now in
    let before = in_edges_before (plan_of at) (task_of at) at.number c.args.k in
    rw c.in-New.is (record { source = tt; taken = once_nil (plan_of at) before c.args.ins.now })

pub returns-in-Null : goal.returns-in-Null
returns-in-Null c =
    let at = c.args.at.now in
    let before = in_edges_before (plan_of at) (task_of at) at.number c.args.k in
    rw c.in-Null.is (OnTrue_from at.sends_nothing _ (λ h. record { source = at.nothing h; taken = once_nil (plan_of at) before c.args.ins.now }))
