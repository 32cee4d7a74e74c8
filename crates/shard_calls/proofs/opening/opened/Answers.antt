use Rattle.std.proofs.Common.{◌∙◌, List, ap, sym, subst, length, arith}
use Rattle.ptg_base.specs.Task.{Task}
use Rattle.dep_iter.specs.Consistent.{roots_among}
use Rattle.shard_calls.specs.Opened.{AreOpened, placement_by}
use Rattle.shard_calls.proofs.Opened.{no_root, one_root, opened_more, opening_shards}
use Rattle.shard_calls.proofs.TaskWalks.{IsSoFar, next_task}
use Rattle.shard_calls.proofs.opening.opened.Goals as goal
use Rattle.dep_iter.specs.Consistent.{roots_among}

pub returns-then-left-eq0 : goal.returns-then-left-eq0
returns-then-left-eq0 c =
    let w = c.loop-t.invariant in
    opening_shards c.args.to c.args.m.now c.args.count c.loop-t.t-iterator c.loop-t.opened.items w.count (sym w.left ∙ c.if-left-eq0.true) w.so_far

pub open_task-requires-clause-task : goal.open_task-requires-clause-task
open_task-requires-clause-task c =
    let P = c.args.m.now in
    next_task P (λ ts. AreOpened P (placement_by c.args.to P c.args.count) ts c.loop-t.opened.items) c.in-Some.t c.next.new.self
    (subst (IsSoFar P (λ ts. AreOpened P (placement_by c.args.to P c.args.count) ts c.loop-t.opened.items)) c.in-Some.ensures.steps c.loop-t.invariant.so_far)

pub loop-t-preserved-then-branch : goal.loop-t-preserved-then-branch
loop-t-preserved-then-branch c =
    let P = c.args.m.now in
    let w = c.loop-t.invariant in
    let o = c.in_ok-open_task.ensures in
    let before = subst (IsSoFar P (λ ts. AreOpened P (placement_by c.args.to P c.args.count) ts c.loop-t.opened.items)) c.in-Some.ensures.steps w.so_far in
    let here = ap (λ (ts : List Task). length (roots_among P ts)) c.in-Some.ensures.steps in
    record {
      can_next = tt;
      is_finite = tt;
      count = o.opened.count ∙ w.count;
      left = omega (arith, w.left, here, one_root P c.in-Some.t c.next.new.self (sym o.root ∙ c.if-branch.true));
      so_far = opened_more c.args.to P c.args.count c.in-Some.t c.next.new.self c.loop-t.opened.items c.open_task.new.shards.items w.count o.opened before;
    }

pub loop-t-preserved : goal.loop-t-preserved
loop-t-preserved c =
    let P = c.args.m.now in
    let w = c.loop-t.invariant in
    let o = c.in_ok-open_task.ensures in
    let before = subst (IsSoFar P (λ ts. AreOpened P (placement_by c.args.to P c.args.count) ts c.loop-t.opened.items)) c.in-Some.ensures.steps w.so_far in
    let here = ap (λ (ts : List Task). length (roots_among P ts)) c.in-Some.ensures.steps in
    record {
      can_next = tt;
      is_finite = tt;
      count = o.opened.count ∙ w.count;
      left = omega (arith, w.left, here, no_root P c.in-Some.t c.next.new.self (sym o.root ∙ c.if-branch.false));
      so_far = opened_more c.args.to P c.args.count c.in-Some.t c.next.new.self c.loop-t.opened.items c.open_task.new.shards.items w.count o.opened before;
    }

pub returns : goal.returns
returns c =
    let P = c.args.m.now in
    let w = c.loop-t.invariant in
    let none = ap (λ (ts : List Task). length (roots_among P ts)) c.in-None.ensures.steps.0 in
    opening_shards c.args.to P c.args.count c.loop-t.t-iterator c.loop-t.opened.items w.count none w.so_far
