use Rattle.std.proofs.Common.{◌≡◌, length, ap, ◌∙◌, arith}
use Rattle.plan_core.specs.declared.plan.Plan.{Plan}
use Rattle.dep_iter.specs.Items.{write_backs}
use Rattle.rank_core.specs.RunningTasks.{plan_of, task_of}
use Rattle.rank_core.proofs.room.count_writes.Goals as goal

pub loop-write-init : goal.loop-write-init
loop-write-init c = record { can_next = tt; is_finite = tt; counted = omega arith }

pub loop-write-preserved : goal.loop-write-preserved
loop-write-preserved c = record {
  can_next = tt;
  is_finite = tt;
  counted = omega
      (arith, c.loop-write.invariant.counted, ap length c.in-Some.ensures.steps, c.in_ok-count.ensures);
}

pub returns : goal.returns
returns c =
    let v = c.args.at.now in
    let are : c.into_iter-write-iterator.result ≡ write_backs (plan_of v)
    (task_of v) = c.into_iter-write-iterator.ensures.into_iter_gives ∙ c.write_backs-write-items.ensures
    ∙ ap (λ (p : Plan). write_backs p (task_of v)) c.requires.plan_is in
    omega (arith, c.loop-write.invariant.counted, ap length c.in-None.ensures.steps.0, ap length are)
