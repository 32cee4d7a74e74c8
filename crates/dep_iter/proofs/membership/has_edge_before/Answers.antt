use Rattle.dep_iter.specs.Directions.{near_flow}
use Rattle.dep_iter.proofs.Belonging.{before-by}
use Rattle.dep_iter.proofs.membership.has_edge_before.Goals as goal

pub returns : goal.returns
returns c = λ P t locals near.
    let d = c.args.direction in
    let e = c.args.edge.now in
    let is = before-by P t e c.args.flow.now c.args.k d near in
    let found = c.any_leads_to.ensures (near_flow d e) in
    let some = c.first_dependences.ensures in
    let all = c.dependences.ensures in
    let w = rw (c.first_only.ensures, some, all, c.far_task.ensures, c.far_flow.ensures, locals) at found in
    (λ q. is.1 (w.0 q), λ h. w.1 (is.0 h))
