use Rattle.std.proofs.Common.{◌≡◌, ◌+◌, ◌≤◌, ◌++◌, map, take, vec_len, vec_capacity}
use Rattle.shard_answer.specs.Parts.{trap_row}
use Rattle.shard_answer.proofs.rows.push_traps_of.Given as goal

abbrev pub invariant-loop-task : goal.invariant-loop-task
invariant-loop-task l = record {
  rows : l.rows.items ≡ l.initial.rows.items ++ map trap_row (take l.task-index l.traps);
  len : vec_len l.rows ≡ vec_len l.initial.rows + l.task-index;
  capacity : vec_capacity l.initial.rows ≤ vec_capacity l.rows;
}
