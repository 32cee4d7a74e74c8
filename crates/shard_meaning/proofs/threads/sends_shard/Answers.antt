use denote.Param.Send.{sendable}
use Rattle.shard_meaning.proofs.Sharing.{shard_send}
use Rattle.shard_meaning.proofs.threads.sends_shard.Goals as goal

pub needs_send-requires-send-T : goal.needs_send-requires-send-T
needs_send-requires-send-T c κs = search (sendable, shard_send) depth 10
