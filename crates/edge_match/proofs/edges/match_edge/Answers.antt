use Rattle.std.proofs.Common.{refl}
use Rattle.edge_match.specs.Marks.{HasOther, Is, IsNewEdge}
use Rattle.edge_match.proofs.Parts.{decides, followed, opposite, stop}
use Rattle.edge_match.specs.FlowParts.{plan_of, task_of}
use Rattle.edge_match.proofs.edges.match_edge.Goals as goal

pub returns-in_err-require : goal.returns-in_err-require
returns-in_err-require c = λ earlier s same.
    let e = c.args.edge.now in
    stop _ c.from_residual.ensures.1 (c.in_err-require.ensures.checked (Is (HasOther c.args.direction e)) s s
    (decides (HasOther c.args.direction e) c.has_other_end.ensures) (c.unmatched.ensures e))

pub returns : goal.returns
returns c = λ earlier s same.
    let e = c.args.edge.now in
    let at = c.args.at.now in
    let double = c.has_edge_before-double in
    let found = rw c.requires.flow at (double.ensures (plan_of at) (task_of at) at.task.now.are_locals (c.requires.task, rw c.requires.flow at.here)) in
    let fresh = opposite double.result (λ h. same.1 (found.0 h), λ k. found.1 (same.0 k)) in
    followed (c.in_ok-require.ensures.checked (Is (HasOther c.args.direction e)) s s
    (decides (HasOther c.args.direction e) c.has_other_end.ensures) (c.unmatched.ensures e))
    (c.require-2.ensures.checked (Is (IsNewEdge earlier e)) s s (decides (IsNewEdge earlier e) fresh) refl)
