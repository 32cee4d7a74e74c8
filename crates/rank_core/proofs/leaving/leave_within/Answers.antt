use Rattle.std.proofs.Common.{length, arith}
use Rattle.dep_iter.specs.Items.{write_backs}
use Rattle.rank_core.specs.RunningTasks.{its_edges_within, plan_of, task_of}
use Rattle.rank_core.proofs.LeftWithin.{less_room}
use Rattle.rank_core.proofs.leaving.leave_within.Goals as goal

pub leave_writes-requires-clause-room : goal.leave_writes-requires-clause-room
leave_writes-requires-clause-room c =
    let v = c.args.at.now in
    less_room (length (its_edges_within v)) (length (write_backs (plan_of v) (task_of v))) 0
    (length (write_backs (plan_of v) (task_of v))) c.args.shard.now c.requires.room (omega arith) (omega arith)

pub leave_edges-requires-clause-room : goal.leave_edges-requires-clause-room
leave_edges-requires-clause-room c =
    let v = c.args.at.now in
    c.leave_writes.ensures.room (length (its_edges_within v)) c.requires.room
