use Rattle.std.proofs.Common.{length}
use Rattle.dep_table.specs.Needs.{AreNoNeeds}
use Rattle.dep_table.proofs.preloaded.no_needs.Given as goal

abbrev pub invariant-loop : goal.invariant-loop
invariant-loop l = AreNoNeeds l.counter (length l.m.elems) l.needs.items
