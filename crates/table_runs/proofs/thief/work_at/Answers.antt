use denote.Param.Send.{sendable}
use Rattle.table_runs.proofs.Sharing.{unscanned_sync}
use Rattle.table_runs.proofs.thief.work_at.Goals as goal

pub work-requires-sync-B : goal.work-requires-sync-B
work-requires-sync-B g c κs within = search (sendable, unscanned_sync) depth 10
