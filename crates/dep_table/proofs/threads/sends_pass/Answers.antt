use denote.Param.Send.{sendable}
use Rattle.dep_table.proofs.Sharing.{pass_send}
use Rattle.dep_table.proofs.threads.sends_pass.Goals as goal

pub needs_send-requires-send-T : goal.needs_send-requires-send-T
needs_send-requires-send-T c κs = search (sendable, pass_send) depth 10
