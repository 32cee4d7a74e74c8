use Rattle.std.proofs.Common.{[], ◌∷◌, ap, ◌∙◌, subst}
use Rattle.plan_core.specs.declared.plan.Plan.{Plan}
use Rattle.dep_iter.specs.Items.{items}
use Rattle.flow_core.specs.OneThread.{HasDone}
use Rattle.flow_core.proofs.OneThread.{IsSoFar, all_done, item_output, nothing_yet, one_more}
use Rattle.flow_core.proofs.sending.send_all.Goals as goal

pub loop-item-init : goal.loop-item-init
loop-item-init c = record {
  can_next = tt;
  is_finite = tt;
  so_far = nothing_yet _ _ _ _;
  running = c.requires.running;
  goals = c.requires.goals;
}

pub send_item-requires : goal.send_item-requires
send_item-requires c =
    let P = c.args.m.now in
    let t = c.args.at.now.task.now in
    let all = c.into_iter-item-iterator.result in
    let r = c.args.runner.now.run in
    let s = c.loop-item.runner.run in
    let is = c.into_iter-item-iterator.ensures.into_iter_gives ∙ c.items-item-items.ensures
    ∙ ap (λ (p : Plan). items p t) c.requires.plan in
    let so_far = subst (λ l. IsSoFar P [] [] all l r s) c.in-Some.ensures.steps c.loop-item.invariant.so_far in
    record {
      output = item_output P t r s c.requires.outputs all c.next.new.self c.in-Some.item is so_far;
      fits = (c.requires.fits.0, c.loop-item.invariant.so_far.done.fits c.requires.fits.0 c.requires.fits.1);
      running = c.loop-item.invariant.running;
      goals = c.loop-item.invariant.goals;
    }

pub loop-item-preserved : goal.loop-item-preserved
loop-item-preserved c =
    let P = c.args.m.now in
    let all = c.into_iter-item-iterator.result in
    let r = c.args.runner.now.run in
    let s = c.loop-item.runner.run in
    let so_far = subst (λ l. IsSoFar P [] [] all l r s) c.in-Some.ensures.steps c.loop-item.invariant.so_far in
    let done = c.in_ok-send_item.ensures.done in
    let left = c.next.new.self in
    record {
      can_next = tt;
      is_finite = tt;
      so_far = one_more P [] [] [] all left (c.in-Some.item ∷ []) r s c.send_item.new.runner.run so_far done;
      running = c.in_ok-send_item.ensures.running;
      goals = c.in_ok-send_item.ensures.goals;
    }

pub returns-clause-done : goal.returns-clause-done
returns-clause-done c =
    let P = c.args.m.now in
    let all = c.into_iter-item-iterator.result in
    let r = c.args.runner.now.run in
    let s = c.loop-item.runner.run in
    let is = c.into_iter-item-iterator.ensures.into_iter_gives ∙ c.items-item-items.ensures
    ∙ ap (λ (p : Plan). items p c.args.at.now.task.now) c.requires.plan in
    let so_far = subst (λ l. IsSoFar P [] [] all l r s) c.in-None.ensures.steps.0 c.loop-item.invariant.so_far in
    subst (λ l. HasDone P [] l r s) is (all_done P [] all r s so_far)
