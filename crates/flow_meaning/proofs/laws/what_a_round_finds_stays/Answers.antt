use Rattle.flow_meaning.proofs.Enough.{stays, found}
use Rattle.flow_meaning.proofs.laws.what_a_round_finds_stays.Goals as goal

pub returns : goal.returns
returns c = record {
  stays = λ P G n more t end con task e. stays P G con n more t task end e;
  found = λ P G n t end con task e. found P G con n t task end e;
}
