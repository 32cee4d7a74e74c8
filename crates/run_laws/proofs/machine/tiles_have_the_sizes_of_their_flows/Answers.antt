use Rattle.flow_meaning.proofs.CallerLemmas.{ended_places, ended_sized, item_sized}
use Rattle.run_laws.proofs.machine.tiles_have_the_sizes_of_their_flows.Goals as goal

pub returns : goal.returns
returns c = record {
  places = λ P G t tiles con fit well job e. ended_places P G con fit well t job tiles e;
  sizes = λ P G t tiles n f con fit well job e here. ended_sized P G con fit well t job tiles e n f here;
  sent = λ P G t i f con fit well job outs among here carries. item_sized P G con fit well t job outs i among f here carries;
}
