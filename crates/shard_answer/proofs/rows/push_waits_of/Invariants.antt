use Rattle.std.proofs.Common.{◌≡◌, ◌+◌, ◌≤◌, ◌++◌, map, take, vec_len, vec_capacity}
use Rattle.shard_answer.specs.Parts.{wait_row}
use Rattle.shard_answer.proofs.rows.push_waits_of.Given as goal

abbrev pub invariant-loop-index : goal.invariant-loop-index
invariant-loop-index l = record {
  rows : l.rows.items ≡ l.initial.rows.items ++ map wait_row (take l.index l.shard.entries);
  len : vec_len l.rows ≡ vec_len l.initial.rows + l.index;
  capacity : vec_capacity l.initial.rows ≤ vec_capacity l.rows;
}
