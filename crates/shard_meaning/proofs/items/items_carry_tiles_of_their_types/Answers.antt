use Rattle.shard_meaning.proofs.Typing.{edge_empty, edge_flow, edge_typed, write_typed}
use Rattle.shard_meaning.proofs.items.items_carry_tiles_of_their_types.Goals as goal

pub returns : goal.returns
returns c = record {
  flow = λ P G S e con sound may. edge_flow P G con S sound e may;
  tile = λ P G S e f con fit well sound may is d. edge_typed P G con S sound e may fit well f is d;
  order = λ P G S e f con sound may is ctl. edge_empty P G con S sound e may f is ctl;
  write = λ P G S w con fit well sound may. write_typed P G con S sound w may fit well;
}
