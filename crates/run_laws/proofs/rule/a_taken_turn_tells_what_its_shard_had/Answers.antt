use Rattle.table_rule.proofs.CallerLemmas.{seen_next, seen_reserve, seen_runs, seen_shard, seen_share}
use Rattle.run_laws.proofs.Seeing.{seen_fires}
use Rattle.run_laws.proofs.rule.a_taken_turn_tells_what_its_shard_had.Goals as goal

pub returns : goal.returns
returns c = record {
  shard = λ j k v y w. seen_shard j k v y w;
  share = λ j k v y w. seen_share j k v y w;
  reserve = λ j k v y w pre. seen_reserve j k v y w pre;
  runs = λ j k v y w t runs. seen_runs j k v y w t runs;
  next = λ j k v y w i tile next. seen_next j k v y w i tile next;
  fires = λ j k v y w e tile next at. seen_fires j k v y w e tile next at;
}
