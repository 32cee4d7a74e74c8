use Rattle.flow_meaning.proofs.CallerLemmas.{answer_same, claims_members}
use Rattle.rank_core.proofs.Messages.{messages_counted}
use Rattle.rank_core.proofs.Quiet.{quiet_iff}
use Rattle.rank_core.proofs.laws.a_quiet_world_has_the_meaning.Goals as goal

pub returns : goal.returns
returns c = record {
  claims = λ P G r w con sound quiet. claims_members P G con w.machine sound.state
      ((quiet_iff P G con r w sound).0 quiet);
  answer = λ P G r w con sound quiet. answer_same P G con w.machine sound.state ((quiet_iff P G con r w sound).0 quiet);
  messages = λ P G r w con sound quiet. messages_counted P G r con w sound quiet;
}
