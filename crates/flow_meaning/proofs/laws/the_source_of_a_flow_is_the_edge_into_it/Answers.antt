use Rattle.flow_meaning.proofs.SourceEdges.{only_source, source_at_flow, source_in}
use Rattle.flow_meaning.proofs.laws.the_source_of_a_flow_is_the_edge_into_it.Goals as goal

pub returns : goal.returns
returns c = record {
  among = λ P t n f e task well here carries s. (source_in P t task well n f here carries e s, source_at_flow P t task well n f here carries e s);
  only = λ P t n f e task well here carries i at. only_source P t task well n f here carries e at i;
}
