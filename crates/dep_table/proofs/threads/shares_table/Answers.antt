use denote.Param.Send.{sendable}
use Rattle.dep_table.proofs.Sharing.{table_sync}
use Rattle.dep_table.proofs.threads.shares_table.Goals as goal

pub needs_sync-requires-sync-T : goal.needs_sync-requires-sync-T
needs_sync-requires-sync-T c κs = search (sendable, table_sync) depth 10
