use denote.Param.Send.{sendable}
use Rattle.shard_meaning.proofs.Sharing.{matched_sync}
use Rattle.shard_meaning.proofs.threads.shares_matched.Goals as goal

pub needs_sync-requires-sync-T : goal.needs_sync-requires-sync-T
needs_sync-requires-sync-T c κs = search (sendable, matched_sync) depth 10
