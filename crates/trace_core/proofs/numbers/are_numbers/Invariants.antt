use Rattle.std.proofs.Common.{◌↔◌, length}
use Rattle.trace_core.specs.Rows.{IsOfNumbers}
use Rattle.trace_core.proofs.numbers.are_numbers.Given as goal

abbrev pub invariant-numbers : goal.invariant-numbers
invariant-numbers l = IsOfNumbers l.left ↔ IsOfNumbers l.fields

abbrev pub decreases-numbers : goal.decreases-numbers
decreases-numbers l = length l.left
