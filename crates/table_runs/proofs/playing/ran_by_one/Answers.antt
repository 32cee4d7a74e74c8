use denote.Param.Send.{sendable}
use Rattle.table_runs.proofs.Sharing.{watched_sync}
use Rattle.table_runs.proofs.playing.ran_by_one.Goals as goal

pub work-requires-sync-B : goal.work-requires-sync-B
work-requires-sync-B g c κs within = search (sendable, watched_sync) depth 10
