use Rattle.std.proofs.Common.{ℕ, List}
use Rattle.data_read.specs.Growing.{draft_of, IsKeyed}
use Rattle.data_read.specs.RecordsLeft.{HasRecords}
use Rattle.data_read.proofs.SoFar.{AddedSoFar}
use Rattle.data_read.proofs.read.add_later_records.Given as goal

abbrev pub invariant-loop-number : goal.invariant-loop-number
invariant-loop-number l = record {
  far : (records : List (List (List ℕ))) → HasRecords l.fn.reader records → AddedSoFar records (draft_of l.fn.all) l.number (draft_of l.all) l.reader;
  keyed : IsKeyed l.all;
}
