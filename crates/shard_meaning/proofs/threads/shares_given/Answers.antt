use denote.Param.Send.{sendable}
use Rattle.shard_meaning.proofs.Sharing.{given_sync}
use Rattle.shard_meaning.proofs.threads.shares_given.Goals as goal

pub needs_sync-requires-sync-T : goal.needs_sync-requires-sync-T
needs_sync-requires-sync-T c κs = search (sendable, given_sync) depth 10
