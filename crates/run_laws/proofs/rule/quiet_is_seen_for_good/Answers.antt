use Rattle.run_laws.proofs.Seeing.{quiet_calm}
use Rattle.run_laws.proofs.rule.quiet_is_seen_for_good.Goals as goal

pub returns : goal.returns
returns c = λ j s id v rule me quiet. quiet_calm j s id v rule me quiet
