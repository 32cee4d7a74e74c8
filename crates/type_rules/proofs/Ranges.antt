-- A range with its bounds and its step.
use Rattle.std.proofs.Common.{Option}
use Rattle.term_core.specs.Term.{Term}
use Rattle.term_core.specs.declared.space.Range.{Range}

abbrev pub range_from : Term → Term × Option Term → Range
range_from x y = record { lo = x; hi = y.0; step = y.1 }
