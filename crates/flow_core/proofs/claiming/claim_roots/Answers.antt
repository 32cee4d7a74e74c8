use Rattle.std.proofs.Common.{[], ◌∷◌, refl, ap, ◌∙◌, subst}
use Rattle.dep_iter.specs.Tasks.{all_tasks}
use Rattle.flow_core.proofs.OneThread.{IsSoFar, all_done, next_task, nothing_yet, one_more, rest_done}
use Rattle.flow_core.proofs.Opening.{nothing_more}
use Rattle.flow_core.proofs.claiming.claim_roots.Goals as goal

pub loop-t-init : goal.loop-t-init
loop-t-init c =
    let P = c.args.m.now in
    let r = c.args.runner.now.run in
    let items = c.into_iter-t-iterator.result in
    let all = c.into_iter-t-iterator.ensures.into_iter_gives ∙ c.all_tasks-t-items.ensures ∙ ap all_tasks c.plan.ensures.same in
    record {
      can_next = tt;
      is_finite = tt;
      so_far = subst (λ l. IsSoFar P l items [] [] r r) all (nothing_yet P items [] r);
      running = c.requires.running;
      opening = c.requires.opening;
      goals = refl;
    }

pub is_open-requires : goal.is_open-requires
is_open-requires c = record {
  fits = (c.requires.fits.0, c.loop-t.invariant.so_far.done.fits c.requires.fits.0 c.requires.fits.1);
  running = c.loop-t.invariant.running;
  opening = c.loop-t.invariant.opening;
}

pub returns-then-is_open-clause-done : goal.returns-then-is_open-clause-done
returns-then-is_open-clause-done c =
    let P = c.args.m.now in
    let r = c.args.runner.now.run in
    let now = c.loop-t.runner.run in
    rest_done P (all_tasks P) c.loop-t.t-iterator r now c.loop-t.invariant.so_far (nothing_more P c.loop-t.t-iterator now (c.if-is_open.ensures refl))

pub claim_if_ready-requires : goal.claim_if_ready-requires
claim_if_ready-requires c =
    let P = c.args.m.now in
    let r = c.args.runner.now.run in
    let now = c.loop-t.runner.run in
    record {
      task = next_task P c.in-Some.t c.next.new.self r now (subst (λ l. IsSoFar P (all_tasks P) l [] [] r now)
          c.in-Some.ensures.steps c.loop-t.invariant.so_far);
      fits = (c.requires.fits.0, c.loop-t.invariant.so_far.done.fits c.requires.fits.0 c.requires.fits.1);
      running = c.loop-t.invariant.running;
    }

pub loop-t-preserved : goal.loop-t-preserved
loop-t-preserved c =
    let P = c.args.m.now in
    let r = c.args.runner.now.run in
    let now = c.loop-t.runner.run in
    let w = subst (λ l. IsSoFar P (all_tasks P) l [] [] r now) c.in-Some.ensures.steps c.loop-t.invariant.so_far in
    record {
      can_next = tt;
      is_finite = tt;
      so_far = one_more P (all_tasks P) c.next.new.self (c.in-Some.t ∷ []) [] [] [] r now c.claim_if_ready.new.runner.run w c.in_ok-claim_if_ready.ensures.done;
      running = c.in_ok-claim_if_ready.ensures.running;
      opening = c.in_ok-claim_if_ready.ensures.opening c.loop-t.invariant.opening;
      goals = c.claim_if_ready.ensures.goals ∙ c.loop-t.invariant.goals;
    }

pub returns-clause-done : goal.returns-clause-done
returns-clause-done c =
    let P = c.args.m.now in
    let r = c.args.runner.now.run in
    let now = c.loop-t.runner.run in
    all_done P (all_tasks P) [] r now (subst (λ l. IsSoFar P (all_tasks P) l [] [] r now) c.in-None.ensures.steps.0 c.loop-t.invariant.so_far)
