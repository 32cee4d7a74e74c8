use Rattle.std.proofs.Common.{◌≡◌, List, ap, ◌∙◌, subst}
use Rattle.ptg_base.specs.declared.edge.Edge.{Edge}
use Rattle.plan_core.specs.declared.plan.Plan.{Plan}
use Rattle.dep_iter.specs.Items.{out_edges}
use Rattle.rank_core.specs.RunningTasks.{plan_of, task_of}
use Rattle.rank_core.proofs.Outgoings.{OutgoingSoFar, outgoing_blank, outgoing_from, outgoing_next, outgoing_to}
use Rattle.rank_core.proofs.Outgoings.{outgoing_within}
use Rattle.rank_core.proofs.room.outgoing_of.Goals as goal

pub add_edge-requires : goal.add_edge-requires
add_edge-requires c =
    let v = c.args.at.now in
    let h = c.requires in
    let all = c.into_iter-edge-iterator.result in
    let are : all ≡ out_edges (plan_of v) (task_of v) = c.into_iter-edge-iterator.ensures.into_iter_gives
    ∙ c.out_edges-edge-items.ensures ∙ ap (λ (p : Plan). out_edges p (task_of v)) h.plan_is in
    let l = subst (λ (es : List Edge). OutgoingSoFar v all es c.loop-edge.outgoing) c.in-Some.ensures.steps
    c.loop-edge.invariant.so_far in
    record {
      runs = h;
      from = outgoing_from v h all are c.in-Some.edge c.next.new.self c.loop-edge.outgoing l;
      to = outgoing_to v h all are c.in-Some.edge c.next.new.self c.loop-edge.outgoing l;
    }

pub loop-edge-preserved : goal.loop-edge-preserved
loop-edge-preserved c =
    let v = c.args.at.now in
    let h = c.requires in
    let all = c.into_iter-edge-iterator.result in
    let are : all ≡ out_edges (plan_of v) (task_of v) = c.into_iter-edge-iterator.ensures.into_iter_gives
    ∙ c.out_edges-edge-items.ensures ∙ ap (λ (p : Plan). out_edges p (task_of v)) h.plan_is in
    let l = subst (λ (es : List Edge). OutgoingSoFar v all es c.loop-edge.outgoing) c.in-Some.ensures.steps
    c.loop-edge.invariant.so_far in
    record {
      can_next = tt;
      is_finite = tt;
      so_far = outgoing_next v h all are c.in-Some.edge c.next.new.self
          c.loop-edge.outgoing l c.add_edge.new.outgoing c.in_ok-add_edge.ensures.between
          c.in_ok-add_edge.ensures.within;
    }

pub returns : goal.returns
returns c =
    let v = c.args.at.now in
    let h = c.requires in
    let all = c.into_iter-edge-iterator.result in
    let are : all ≡ out_edges (plan_of v) (task_of v) = c.into_iter-edge-iterator.ensures.into_iter_gives
    ∙ c.out_edges-edge-items.ensures ∙ ap (λ (p : Plan). out_edges p (task_of v)) h.plan_is in
    let l = subst (λ (es : List Edge). OutgoingSoFar v all es c.loop-edge.outgoing) c.in-None.ensures.steps.0
    c.loop-edge.invariant.so_far in
    record {
      messages = outgoing_blank v h all are c.loop-edge.outgoing l;
      within = outgoing_within v h all are
          c.loop-edge.outgoing l;
    }
