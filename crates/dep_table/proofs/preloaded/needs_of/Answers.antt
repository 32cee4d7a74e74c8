use Rattle.std.proofs.Common.{rules, ◌≡◌, ◌∙◌, [], ◌∷◌, ap, sym, subst, length}
use Rattle.plan_core.specs.declared.plan.Plan.{Plan}
use Rattle.dep_iter.specs.Tasks.{all_tasks}
use Rattle.shard_meaning.specs.Placing.{shard_of}
use Rattle.dep_table.specs.Needs.{AreNeedsOf, CanCountEach}
use Rattle.dep_table.proofs.NeedsRoom.{room_all, room_first}
use Rattle.dep_table.proofs.NeedsSteps.{needs_more, no_task}
use Rattle.shard_calls.proofs.CallerLemmas.{IsSoFar, begun, next_task, whole}
use Rattle.dep_table.proofs.preloaded.needs_of.Goals as goal

pub loop-t-init : goal.loop-t-init
loop-t-init c =
    let P = c.args.m.now in
    let ns = c.in_ok-needs.needs.items in
    let none = c.in_ok-needs.ensures in
    let all : c.into_iter-t-iterator.result ≡ all_tasks P = c.into_iter-t-iterator.ensures.into_iter_gives
    ∙ c.all_tasks-t-items.ensures ∙ ap (λ (p : Plan). all_tasks p) c.plan.ensures.same in
    record {
      can_next = search rules;
      is_finite = search rules;
      count = none.count;
      types = λ k n at. (none.each k n at).types_count;
      room = subst (λ ts. CanCountEach P ts ns) (sym all) (room_all P c.plan_is_consistent.ensures c.args.shards (length P.elems) ns none);
      so_far = subst (IsSoFar P (λ ts. AreNeedsOf P (shard_of P c.args.shards) ts ns)) (sym all)
          (begun P (λ ts. AreNeedsOf P (shard_of P c.args.shards) ts ns)
          (no_task P (shard_of P c.args.shards) c.args.shards ns none));
    }

pub need_task-requires-clause-task : goal.need_task-requires-clause-task
need_task-requires-clause-task c =
    let P = c.args.m.now in
    next_task P (λ ts. AreNeedsOf P (shard_of P c.args.shards) ts c.loop-t.needs.items) c.in-Some.t c.next.new.self
    (subst (IsSoFar P (λ ts. AreNeedsOf P (shard_of P c.args.shards) ts c.loop-t.needs.items)) c.in-Some.ensures.steps c.loop-t.invariant.so_far)

pub need_task-requires-clause-room : goal.need_task-requires-clause-room
need_task-requires-clause-room c = λ k n at.
    let P = c.args.m.now in
    room_first P (c.in-Some.t ∷ []) c.next.new.self n (subst (λ ts. CanCountEach P ts c.loop-t.needs.items)
    c.in-Some.ensures.steps c.loop-t.invariant.room k n at)

pub loop-t-preserved : goal.loop-t-preserved
loop-t-preserved c =
    let P = c.args.m.now in
    let old = c.loop-t.needs.items in
    let w = c.loop-t.invariant in
    let adds = c.need_task.ensures in
    let before = subst (IsSoFar P (λ ts. AreNeedsOf P (shard_of P c.args.shards) ts old)) c.in-Some.ensures.steps w.so_far in
    record {
      can_next = tt;
      is_finite = tt;
      count = adds.count ∙ w.count;
      types = adds.types w.types;
      room = adds.room c.next.new.self (subst (λ ts. CanCountEach P ts old) c.in-Some.ensures.steps w.room);
      so_far = needs_more P c.args.shards c.in-Some.t c.next.new.self old c.need_task.new.needs.items w.count adds before;
    }

pub returns-clause-needs : goal.returns-clause-needs
returns-clause-needs c =
    let P = c.args.m.now in
    whole P (λ ts. AreNeedsOf P (shard_of P c.args.shards) ts c.loop-t.needs.items)
    (subst (IsSoFar P (λ ts. AreNeedsOf P (shard_of P c.args.shards) ts c.loop-t.needs.items)) c.in-None.ensures.steps.0 c.loop-t.invariant.so_far)
