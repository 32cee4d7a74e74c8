use denote.Param.Send.{sendable}
use Rattle.shard_meaning.proofs.Sharing.{shard_sync}
use Rattle.shard_meaning.proofs.threads.shares_shard.Goals as goal

pub needs_sync-requires-sync-T : goal.needs_sync-requires-sync-T
needs_sync-requires-sync-T c κs = search (sendable, shard_sync) depth 10
