-- The memory that a table keeps for its close.
-- Carried by: `DepTable::close`.
use Rattle.std.specs.Prelude.{◌≡◌, ◌≤◌, true, length, vec_capacity}
use Rattle.dep_iter.specs.Tasks.{all_tasks}
use Rattle.table_rule.specs.declared.table_job.TableJob.{TableJob}
use Rattle.dep_table.specs.declared.closing_room.ClosingRoom.{ClosingRoom}

-- an empty list with room for the shards and, if the table is preloaded, room for a row of each task
pub record IsRoomFor (j : TableJob) (r : ClosingRoom) : Type 0 where
  pub none_yet : length r.shards.items ≡ 0
  pub shards : j.shards ≤ vec_capacity r.shards
  pub rows : j.preloaded ≡ true → length (all_tasks j.matched) ≤ r.rows
