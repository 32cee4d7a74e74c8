use Rattle.std.proofs.Common.{◌+◌, ◌<◌, length, take, drop, suc, length-take-le, ap, sym, ◌∙◌, subst, arith}
use Rattle.list_lemmas.proofs.Places.{each_at, slice_get_at}
use Rattle.dep_iter.specs.Tasks.{IsTask}
use Rattle.trace_replay.specs.Replaying.{HasRunInOrder, StopsAt}
use Rattle.trace_replay.proofs.Turned.{ran_more, split_at, stopped_here, take_one_more}
use Rattle.trace_replay.proofs.running.run_in_order.Goals as goal

pub returns-then-not-ran : goal.returns-then-not-ran
returns-then-not-ran c =
    let n = c.tasks.t-index in
    let ts = c.args.list.now in
    let t = c.t-item.result in
    let G = c.in_ok-world.world.given in
    let lt : n < length ts = omega arith in
    let at = slice_get_at ts n t lt c.t-item.is in
    let job = each_at (IsTask c.args.m.now) ts n t c.requires.tasks at in
    subst (λ g. StopsAt c.args.m.now g ts c.tasks.index) c.in_ok-world.ensures.world.given
    (stopped_here c.args.m.now G c.plan_is_consistent.ensures (take n ts) c.tasks.world c.tasks.invariant.run ts
    (drop (suc n) ts) t c.tasks.index c.in_ok-ran.ran job c.if-not-ran.true c.in_ok-ran.ensures.exact
    (split_at ts n t at)
    (c.tasks.invariant.index ∙ sym (length-take-le n ts (omega (arith, lt)))))

pub tasks-preserved : goal.tasks-preserved
tasks-preserved c =
    let n = c.tasks.t-index in
    let ts = c.args.list.now in
    let t = c.t-item.result in
    let G = c.in_ok-world.world.given in
    let lt : n < length ts = omega arith in
    let at = slice_get_at ts n t lt c.t-item.is in
    let job = each_at (IsTask c.args.m.now) ts n t c.requires.tasks at in
    let next = ran_more c.args.m.now G c.plan_is_consistent.ensures (take n ts) c.tasks.world c.tasks.invariant.run t
    c.run.new.self c.in_ok-ran.ran job c.if-not-ran.false c.in_ok-ran.ensures.exact c.in_ok-ran.ensures.state
    c.in_ok-ran.ensures.sound in
    record {
      run = subst (λ us. HasRunInOrder c.args.m.now G us c.run.new.self) (take_one_more ts n t t lt c.t-item.is) next;
      index = ap (λ k. k + 1) c.tasks.invariant.index;
    }
