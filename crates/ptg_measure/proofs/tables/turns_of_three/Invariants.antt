use Rattle.dep_table.specs.Passes.{IsPassOf}
use Rattle.dep_table.specs.Tables.{id_of}
use Rattle.ptg_measure.proofs.tables.turns_of_three.Given as goal

abbrev pub invariant-loop : goal.invariant-loop
invariant-loop l = IsPassOf (id_of l.table) l.first × IsPassOf (id_of l.table) l.second × IsPassOf (id_of l.table) l.third
