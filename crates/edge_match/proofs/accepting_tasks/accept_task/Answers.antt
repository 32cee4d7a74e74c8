use Rattle.goal_count.proofs.CallerLemmas.{well_flows}
use Rattle.list_lemmas.proofs.Truth.{on_true_weaker}
use Rattle.edge_match.proofs.Walking.{went_one}
use Rattle.edge_match.proofs.accepting_tasks.accept_task.Goals as goal

pub accept_flows-requires : goal.accept_flows-requires
accept_flows-requires c =
    let task = c.args.task.now in
    rw task.are_locals (well_flows task.plan.now task.task.now c.if-not-is_sound.ensures.well)

pub returns : goal.returns
returns c =
    let task = c.args.task.now in
    let sound = c.if-not-is_sound.ensures in
    let tally = c.accept_flows.new.tally in
    on_true_weaker c.accept_flows.result
    (went_one task.plan.now c.args.tally.now tally task.task.now sound.well sound.place)
    (rw task.are_locals at c.accept_flows.ensures)
