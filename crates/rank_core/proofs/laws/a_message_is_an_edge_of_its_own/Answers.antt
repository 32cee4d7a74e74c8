use Rattle.rank_core.proofs.Messages.{edges_once}
use Rattle.rank_core.proofs.Happening.{message_is, message_may}
use Rattle.rank_core.proofs.laws.a_message_is_an_edge_of_its_own.Goals as goal

pub returns : goal.returns
returns c = record {
  once = λ P G r w con sound. edges_once P G r con w sound;
  may = λ P G r w m con sound h none. (message_may P G con r w sound m h none, (message_is P G con r w sound m h).tile);
}
