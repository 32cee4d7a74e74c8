-- The words of a table may be shared between threads, and a seat sent to one, as fields of other structs.
use denote.Param.Send.{IsSend, IsSync, sendable, struct_send, struct_sync}
use denote.Struct.Struct.{Struct}
use denote.Struct.Declared.{shape}
use Rattle.std.proofs.Crossing.{crosses}
use Rattle.atomic_table.proofs.send_lease.SendLease.TheSendSync.{the_sync as lease_sync}
use Rattle.atomic_table.proofs.shared.Seat.TheSendSync.{the_send as seat_send}
use Rattle.atomic_table.proofs.shared.Shared.TheSendSync.{the_sync as shared_sync}
use Rattle.shard_meaning.proofs.CallerLemmas.{given_sync, matched_sync, shard_send}
use Rattle.table_rule.specs.contracts.pass_seat.PassSeat.{the_type as seat_type}
use Rattle.table_rule.specs.contracts.table_job.TableJob.{the_type as job_type}
use Rattle.table_rule.specs.contracts.table_words.TableWords.{the_type as words_type}

-- a job
pub job_fields : IsSync (Struct (shape job_type))
job_fields = let a = matched_sync in let b = given_sync in struct_sync (shape job_type) (search sendable depth 30)

-- the words
pub words_fields : IsSync (Struct (shape words_type))
words_fields =
    let s = shard_send in
    struct_sync (shape words_type)
    (search (sendable, crosses, shared_sync, lease_sync) depth 30, (search sendable depth 30, tt))

-- a seat
pub seat_fields : IsSend (Struct (shape seat_type))
seat_fields = let s = shard_send in struct_send (shape seat_type) (search (sendable, crosses, seat_send) depth 30)
