use Rattle.std.proofs.Common.{All}
use Rattle.dep_table.specs.Passes.{IsPassOf}
use Rattle.dep_table.specs.Tables.{id_of}
use Rattle.ptg_measure.proofs.tables.some_passes.Given as goal

abbrev pub invariant-loop : goal.invariant-loop
invariant-loop l = IsPassOf (id_of l.table) l.first × All (IsPassOf (id_of l.table)) l.passes.items
