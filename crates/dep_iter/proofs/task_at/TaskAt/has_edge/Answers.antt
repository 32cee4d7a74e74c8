use Rattle.std.proofs.lemmas.Bool.{false≢true}
use Rattle.dep_iter.specs.Directions.{near_flow}
use Rattle.dep_iter.proofs.Belonging.{edge-by, edge-none}
use Rattle.dep_iter.proofs.task_at.TaskAt.has_edge.Goals as goal

pub returns-in_default : goal.returns-in_default
returns-in_default c =
    let at = c.args.self.now in
    let none = edge-none c.args.direction at.plan.now at.task.now c.args.edge.now c.in_default.ensures in
    (λ q. absurd (false≢true q), λ h. absurd (none h))

pub returns : goal.returns
returns c =
    let at = c.args.self.now in
    let d = c.args.direction in
    let e = c.args.edge.now in
    let is = edge-by d at.plan.now at.task.now e c.in-Some.flow.now c.in-Some.ensures in
    let found = c.any_leads_to.ensures (near_flow d e) in
    let task = c.far_task.ensures in
    let flow = c.far_flow.ensures in
    let w = rw (c.first_only.ensures, c.dependences.ensures, task, flow, at.are_locals) at found in
    (λ q. is.1 (w.0 q), λ h. w.1 (is.0 h))
