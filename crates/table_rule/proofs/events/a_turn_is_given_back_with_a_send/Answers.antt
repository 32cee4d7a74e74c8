use Rattle.table_rule.proofs.Sending.{sends_edge, sends_write}
use Rattle.table_rule.proofs.events.a_turn_is_given_back_with_a_send.Goals as goal

pub returns : goal.returns
returns c = record {
  edge = λ j n id m k e tile y z datatype h next at stamped updates kept typed uses. sends_edge j n id m k e tile y z
      datatype h next at stamped updates kept typed uses;
  write = λ j n id m k w tile y z datatype h next at stamped written kept typed uses. sends_write j n id m k w tile y z
      datatype h next at stamped written kept typed uses;
}
