use Rattle.table_rule.proofs.Alone.{alone_free, alone_parts, alone_stamps}
use Rattle.table_rule.proofs.rules.a_pass_with_all_names_is_alone.Goals as goal

pub returns : goal.returns
returns c = record {
  moment = λ j s id v rule me all. alone_parts j s id v rule me all;
  stamps = λ j s id v rule me all. alone_stamps j s id v rule me all;
  free = λ j s id v rule me all none_held k near. alone_free j s id v rule me all none_held k near;
}
