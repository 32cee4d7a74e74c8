use Rattle.rank_core.proofs.Quiet.{quiet_iff}
use Rattle.rank_core.proofs.laws.quiet_worlds_are_quiescent.Goals as goal

pub returns : goal.returns
returns c = λ P G r w con sound. quiet_iff P G con r w sound
