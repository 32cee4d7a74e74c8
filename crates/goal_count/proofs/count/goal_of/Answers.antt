use Rattle.std.proofs.Common.{◌≡◌, ◌≤◌, length, ◌∙◌, rules, arith}
use Rattle.dep_iter.specs.Edges.{in_edges}
use Rattle.goal_count.specs.Counting.{flows_count}
use Rattle.goal_count.proofs.Sums.{length-in_edges}
use Rattle.goal_count.proofs.WellFlows.{well_flows}
use Rattle.goal_count.proofs.count.goal_of.Goals as goal
use Rattle.goal_count.proofs.count.goal_of.Goals.{After-flows_count}

exact : (c : After-flows_count) → let at = c.args.at.now in
    c.flows_count.result ≡ length (in_edges at.plan.now at.task.now)
exact c =
    let at = c.args.at.now in
    let links = c.edges_are_links.ensures.ins at.plan.now at.task.now in
    let n : flows_count at.locals.now c.flows.result.now ≡ length (in_edges at.plan.now at.task.now) =
    rw (at.are_locals, c.flows.ensures.flows) (length-in_edges at.plan.now at.task.now links) in
    let e = c.a_task_has_no_more_edges_than_the_job.ensures.ins at.plan.now at.task.now at.of_job in
    let f = c.requires.in_edges_at_most in
    c.flows_count.ensures.1 (omega arith) ∙ n

pub flows_count-requires : goal.flows_count-requires
flows_count-requires c =
    let at = c.args.at.now in
    let well = (c.requires.connected at.task.now at.of_job).well in
    rw (at.are_locals, c.flows.ensures.flows) (well_flows at.plan.now at.task.now well)

pub overflow_cast-result : goal.overflow_cast-result
overflow_cast-result c =
    let at = c.args.at.now in
    let e = exact c in
    let f = c.a_task_has_no_more_edges_than_the_job.ensures.ins at.plan.now at.task.now at.of_job in
    let g = c.requires.in_edges_at_most in
    let k : c.flows_count.result ≤ 4000000 = omega arith in
    search (rules, k)

pub returns : goal.returns
returns c = exact c
