-- A table may be shared between threads, and a pass sent to one.
use denote.Param.Send.{IsSend, IsSync, sendable, struct_sync}
use denote.Struct.Struct.{Struct}
use denote.Struct.Declared.{shape}
use Rattle.std.proofs.Crossing.{crosses}
use Rattle.crossbeam_utils.specs.contracts.sync.event_count.EventCount.{the_type as events_type}
use Rattle.shard_meaning.proofs.CallerLemmas.{declared_sync, shard_sync}
use Rattle.table_rule.proofs.CallerLemmas.{job_fields, seat_fields, words_fields}
use Rattle.dep_table.specs.contracts.closing_room.ClosingRoom.{the_type as closing_type}
use Rattle.dep_table.specs.contracts.pass.Pass.{the_row as pass_row}
use Rattle.dep_table.specs.contracts.table.DepTable.{the_row as table_row, the_type as table_type}

-- the room of a close as a field of another struct
closing_fields : IsSync (Struct (shape closing_type))
closing_fields = let s = shard_sync in struct_sync (shape closing_type) (search (sendable, crosses) depth 30)

-- the place where workers sleep as a field of another struct
events_fields : IsSync (Struct (shape events_type))
events_fields = struct_sync (shape events_type) (search (sendable, crosses) depth 30)

pub table_sync : IsSync table_row
table_sync = declared_sync table_type (words_fields, (job_fields, (closing_fields, (events_fields, tt))))

pub pass_send : IsSend pass_row
pass_send = search (sendable, crosses, seat_fields) depth 30
