use Rattle.flow_meaning.proofs.Arriving.{arrives, arrives_not, delivers_as_before, delivers_now, writes_not}
use Rattle.flow_meaning.proofs.machine.an_edge_arrives_at_its_target.Goals as goal

pub returns : goal.returns
returns c = record {
  target = λ P G S e con sound may. arrives P G con S sound e may;
  others = λ P G S e t con sound may other. arrives_not P G con S sound e may t other;
  writes = λ P G S w t con sound may. writes_not P G con S sound w may t;
  tile = λ P G S e may. delivers_now P G S e may;
  tiles = λ P G S i d other. delivers_as_before P G S i d other;
}
