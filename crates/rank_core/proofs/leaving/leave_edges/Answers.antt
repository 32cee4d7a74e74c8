use Rattle.std.proofs.Common.{◌≡◌, List, length, ap, sym, ◌∙◌, subst}
use Rattle.ptg_base.specs.declared.edge.Edge.{Edge}
use Rattle.plan_core.specs.declared.plan.Plan.{Plan}
use Rattle.dep_iter.specs.Items.{out_edges}
use Rattle.flow_meaning.specs.Backward.{ended}
use Rattle.flow_meaning.specs.Ending.{has_outputs}
use Rattle.rank_core.specs.RankRoom.{HasRoomFor}
use Rattle.rank_core.specs.RunningTasks.{data_of, plan_of, task_of}
use Rattle.rank_core.proofs.LeftWithin.{EdgesLeft, edge_from, edge_may, edge_next, edge_room, edge_to, edges_first}
use Rattle.rank_core.proofs.LeftWithin.{edges_last}
use Rattle.rank_core.proofs.Parts.{within_among}
use Rattle.rank_core.proofs.leaving.leave_edges.Goals as goal

pub loop-edge-init : goal.loop-edge-init
loop-edge-init c =
    let v = c.args.at.now in
    let all = c.into_iter-edge-iterator.result in
    let are : all ≡ out_edges (plan_of v) (task_of v) = c.into_iter-edge-iterator.ensures.into_iter_gives
    ∙ c.out_edges-edge-items.ensures ∙ ap (λ (p : Plan). out_edges p (task_of v)) c.requires.runs.plan_is in
    record {
      can_next = tt;
      is_finite = tt;
      left = edges_first v c.requires.runs (ap has_outputs c.requires.tiles) all
          c.args.shard.now c.requires.holds (subst (λ es. HasRoomFor (length (within_among v es)) 0 c.args.shard.now)
          (sym are) c.requires.room);
    }

pub leave_edge-requires : goal.leave_edge-requires
leave_edge-requires c =
    let v = c.args.at.now in
    let h = c.requires.runs in
    let o = ap has_outputs c.requires.tiles in
    let all = c.into_iter-edge-iterator.result in
    let are : all ≡ out_edges (plan_of v) (task_of v) = c.into_iter-edge-iterator.ensures.into_iter_gives
    ∙ c.out_edges-edge-items.ensures ∙ ap (λ (p : Plan). out_edges p (task_of v)) c.requires.runs.plan_is in
    let l = subst (λ (es : List Edge). EdgesLeft v all es c.loop-edge.shard) c.in-Some.ensures.steps
    c.loop-edge.invariant.left in
    let from = edge_from v h o all are c.in-Some.edge c.next.new.self c.loop-edge.shard l in
    record {
      runs = h;
      from = from;
      to = edge_to v h o all are c.in-Some.edge c.next.new.self c.loop-edge.shard l;
      tiles = ap (ended (plan_of v) (data_of v)) from ∙ c.requires.tiles;
      may = λ k. edge_may v h o all are c.in-Some.edge c.next.new.self c.loop-edge.shard l k;
      room = λ k. edge_room v h o all are c.in-Some.edge c.next.new.self c.loop-edge.shard l k;
    }

pub loop-edge-preserved : goal.loop-edge-preserved
loop-edge-preserved c =
    let v = c.args.at.now in
    let h = c.requires.runs in
    let o = ap has_outputs c.requires.tiles in
    let all = c.into_iter-edge-iterator.result in
    let are : all ≡ out_edges (plan_of v) (task_of v) = c.into_iter-edge-iterator.ensures.into_iter_gives
    ∙ c.out_edges-edge-items.ensures ∙ ap (λ (p : Plan). out_edges p (task_of v)) c.requires.runs.plan_is in
    let l = subst (λ (es : List Edge). EdgesLeft v all es c.loop-edge.shard) c.in-Some.ensures.steps
    c.loop-edge.invariant.left in
    record {
      can_next = tt;
      is_finite = tt;
      left = edge_next v h o all are c.in-Some.edge c.next.new.self
          c.loop-edge.shard l c.leave_edge.new.shard c.leave_edge.ensures.takes c.leave_edge.ensures.same;
    }

pub returns : goal.returns
returns c =
    let v = c.args.at.now in
    let all = c.into_iter-edge-iterator.result in
    let are : all ≡ out_edges (plan_of v) (task_of v) = c.into_iter-edge-iterator.ensures.into_iter_gives
    ∙ c.out_edges-edge-items.ensures ∙ ap (λ (p : Plan). out_edges p (task_of v)) c.requires.runs.plan_is in
    let l = subst (λ (es : List Edge). EdgesLeft v all es c.loop-edge.shard) c.in-None.ensures.steps.0
    c.loop-edge.invariant.left in
    edges_last v c.requires.runs (ap has_outputs c.requires.tiles) all are c.loop-edge.shard l
