use Rattle.std.proofs.Common.{◌≡◌, take}
use Rattle.trace_replay.specs.Replaying.{HasRunInOrder}
use Rattle.trace_replay.proofs.running.run_in_order.Given as goal

abbrev pub invariant-tasks : goal.invariant-tasks
invariant-tasks l = record {
  run : HasRunInOrder l.m l.initial.world.given (take l.t-index l.list) l.world;
  index : l.index ≡ l.t-index;
}
