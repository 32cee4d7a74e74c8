use Rattle.std.proofs.Common.{◌≡◌, ◌+◌}
use Rattle.jdf_lex.specs.Reading.{IsCursorIn}
use Rattle.jdf_lex.proofs.cursor.advance.Given as goal

abbrev pub invariant-loop : goal.invariant-loop
invariant-loop l = record {
  cursor : IsCursorIn l.text l.now;
  index : l.now.index ≡ l.fn.here.index + l.counter;
}
