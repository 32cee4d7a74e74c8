use denote.Param.Send.{sendable}
use Rattle.dep_table.proofs.CallerLemmas.{table_sync}
use Rattle.table_runs.proofs.orders.claims_by_one.Goals as goal

pub work_logged-requires-sync-B : goal.work_logged-requires-sync-B
work_logged-requires-sync-B g c κs within = search (sendable, table_sync) depth 10
