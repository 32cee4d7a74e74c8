-- The watched table and the one that can't be scanned may be shared between threads.
use denote.Param.Send.{IsSync, sendable, struct_sync}
use denote.Struct.Struct.{Struct}
use denote.Struct.Declared.{shape}
use Rattle.std.proofs.Crossing.{crosses}
use Rattle.crossbeam_utils.specs.contracts.sync.event_count.EventCount.{the_type as events_type}
use Rattle.shard_meaning.proofs.CallerLemmas.{declared_sync, shard_sync}
use Rattle.table_rule.proofs.CallerLemmas.{job_fields, words_fields}
use Rattle.dep_table.specs.contracts.closing_room.ClosingRoom.{the_type as closing_type}
use Rattle.dep_table.specs.contracts.table.DepTable.{the_type as table_type}
use Rattle.table_runs.specs.contracts.unscanned.Unscanned.{the_row as unscanned_row, the_type as unscanned_type}
use Rattle.table_runs.specs.contracts.watching.Watched.{the_row as watched_row, the_type as watched_type}

-- the room of a close as a field of another struct
closing_fields : IsSync (Struct (shape closing_type))
closing_fields = let s = shard_sync in struct_sync (shape closing_type) (search (sendable, crosses) depth 30)

-- the place where workers sleep as a field of another struct
events_fields : IsSync (Struct (shape events_type))
events_fields = struct_sync (shape events_type) (search (sendable, crosses) depth 30)

-- a table as a field of another struct
table_fields : IsSync (Struct (shape table_type))
table_fields = struct_sync (shape table_type) (words_fields, (job_fields, (closing_fields, (events_fields, tt))))

pub watched_sync : IsSync watched_row
watched_sync = declared_sync watched_type (table_fields, tt)

pub unscanned_sync : IsSync unscanned_row
unscanned_sync = declared_sync unscanned_type (table_fields, (search sendable depth 30, tt))
