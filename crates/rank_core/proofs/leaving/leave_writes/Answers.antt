use Rattle.std.proofs.Common.{◌≡◌, List, length, suc, ap, sym, ◌∙◌, subst, arith}
use Rattle.ptg_base.specs.declared.edge.WriteBack.{WriteBack}
use Rattle.plan_core.specs.declared.plan.Plan.{Plan}
use Rattle.dep_iter.specs.Items.{write_backs}
use Rattle.flow_meaning.specs.Backward.{ended}
use Rattle.flow_meaning.specs.Ending.{has_outputs}
use Rattle.rank_core.specs.RankRoom.{HasRoomFor}
use Rattle.rank_core.specs.RunningTasks.{data_of, plan_of, task_of}
use Rattle.rank_core.proofs.LeftWithin.{WritesLeft, less_room, write_from, write_may, write_then, writes_first}
use Rattle.rank_core.proofs.LeftWithin.{writes_last}
use Rattle.rank_core.proofs.leaving.leave_writes.Goals as goal

pub loop-write-init : goal.loop-write-init
loop-write-init c = record {
  can_next = tt;
  is_finite = tt;
  left = writes_first c.args.at.now c.requires.runs
      (ap has_outputs c.requires.tiles) c.into_iter-write-iterator.result c.args.shard.now c.requires.holds;
}

pub leave_write-requires : goal.leave_write-requires
leave_write-requires c =
    let v = c.args.at.now in
    let h = c.requires.runs in
    let o = ap has_outputs c.requires.tiles in
    let all = c.into_iter-write-iterator.result in
    let are : all ≡ write_backs (plan_of v) (task_of v) = c.into_iter-write-iterator.ensures.into_iter_gives
    ∙ c.write_backs-write-items.ensures ∙ ap (λ (p : Plan). write_backs p (task_of v)) c.requires.runs.plan_is in
    let l = subst (λ (ws : List WriteBack). WritesLeft v all ws c.args.shard.now c.loop-write.shard)
    c.in-Some.ensures.steps c.loop-write.invariant.left in
    record {
      tiles = ap (ended (plan_of v) (data_of v)) (write_from v h o all are c.in-Some.write c.next.new.self
          c.args.shard.now c.loop-write.shard l) ∙ c.requires.tiles;
      may = write_may v h o all are c.in-Some.write c.next.new.self c.args.shard.now c.loop-write.shard l;
      room = less_room 0 (suc (length c.next.new.self)) 0 1 c.loop-write.shard
          (l.room 0 (subst (λ ws. HasRoomFor 0 (length ws) c.args.shard.now) (sym are) c.requires.room)) (omega arith)
          (omega arith);
    }

pub loop-write-preserved : goal.loop-write-preserved
loop-write-preserved c =
    let v = c.args.at.now in
    let h = c.requires.runs in
    let o = ap has_outputs c.requires.tiles in
    let all = c.into_iter-write-iterator.result in
    let are : all ≡ write_backs (plan_of v) (task_of v) = c.into_iter-write-iterator.ensures.into_iter_gives
    ∙ c.write_backs-write-items.ensures ∙ ap (λ (p : Plan). write_backs p (task_of v)) c.requires.runs.plan_is in
    let l = subst (λ (ws : List WriteBack). WritesLeft v all ws c.args.shard.now c.loop-write.shard)
    c.in-Some.ensures.steps c.loop-write.invariant.left in
    record {
      can_next = tt;
      is_finite = tt;
      left = write_then v h o all are c.in-Some.write c.next.new.self
          c.args.shard.now c.loop-write.shard l c.leave_write.new.shard c.leave_write.ensures;
    }

pub returns : goal.returns
returns c =
    let v = c.args.at.now in
    let h = c.requires.runs in
    let o = ap has_outputs c.requires.tiles in
    let all = c.into_iter-write-iterator.result in
    let are : all ≡ write_backs (plan_of v) (task_of v) = c.into_iter-write-iterator.ensures.into_iter_gives
    ∙ c.write_backs-write-items.ensures ∙ ap (λ (p : Plan). write_backs p (task_of v)) c.requires.runs.plan_is in
    let l = subst (λ (ws : List WriteBack). WritesLeft v all ws c.args.shard.now c.loop-write.shard)
    c.in-None.ensures.steps.0 c.loop-write.invariant.left in
    record {
      holds = writes_last v h o all are c.args.shard.now c.loop-write.shard l;
      room = λ n room. l.room n (subst (λ ws. HasRoomFor n (length ws) c.args.shard.now) (sym are) room);
    }
