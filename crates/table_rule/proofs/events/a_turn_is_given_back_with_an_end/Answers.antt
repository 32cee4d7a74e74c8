use Rattle.table_rule.proofs.Ending.{ends_by_trap, ends_with_items}
use Rattle.table_rule.proofs.events.a_turn_is_given_back_with_an_end.Goals as goal

pub returns : goal.returns
returns c = record {
  end = λ j n id m k t y z h may at stamped ending kept trapped uses. ends_with_items j n id m k t y z h may at stamped ending kept trapped uses;
  trap = λ j n id m k t cause y z h may at stamped ending kept trapped uses. ends_by_trap j n id m k t cause y z h may at stamped ending kept trapped uses;
}
