use Rattle.std.proofs.Common.{◌≡◌, map, take}
use Rattle.dep_table.specs.Views.{shown}
use Rattle.dep_table.proofs.closed_records.ClosedRecords.of.Given as goal

abbrev pub invariant-loop-pass : goal.invariant-loop-pass
invariant-loop-pass l = l.records.records ≡ map shown (take l.pass-index l.passes)
