use Rattle.std.proofs.Common.{add-one}
use Rattle.list_lemmas.proofs.Places.{drop_from}
use Rattle.dep_iter.specs.Tasks.{flows_of}
use Rattle.edge_match.proofs.Parts.{followed, stop}
use Rattle.edge_match.proofs.flows.+check_flows.Goals as goal

pub returns-in_err-check_flow : goal.returns-in_err-check_flow
returns-in_err-check_flow m c =
    let task = c.args.task.now in
    let flows = flows_of task.plan.now task.task.now in
    rw (drop_from flows c.args.number c.in-Some.flow.now c.in-Some.ensures.found.1)
    (stop _ c.from_residual.ensures.1 c.in_err-check_flow.ensures)

pub returns : goal.returns
returns m c =
    let task = c.args.task.now in
    let flows = flows_of task.plan.now task.task.now in
    rw (drop_from flows c.args.number c.in-Some.flow.now c.in-Some.ensures.found.1)
    (followed c.in_ok-check_flow.ensures (rw add-one at c.check_flows.ensures))
