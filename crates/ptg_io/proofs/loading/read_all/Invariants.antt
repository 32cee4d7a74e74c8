use Rattle.std.proofs.Common.{◌≡◌, ◌-◌, ◌≤◌, List, ℕ, vec_len}
use Rattle.ptg_io.specs.Load.{IsReadSoFar, HasRead}
use Rattle.ptg_io.specs.Reads.{AddsPieces, HaveGiven}
use Rattle.ptg_io.proofs.loading.read_all.Given as goal

abbrev pub invariant-pieces : goal.invariant-pieces
invariant-pieces g l = record {
  stays : g.F.Files.contents l.files ≡ g.F.Files.contents l.initial.files;
  grows : (other : List ℕ) → g.F.Files.faults l.initial.files other ≤ g.F.Files.faults l.files other;
  no_fault : (other : List ℕ) → g.F.Files.faults l.files other ≡ g.F.Files.faults l.initial.files other;
  bounded : vec_len l.bytes ≤ 16777216;
  reads : HasRead g.F.Files.read_gives l.name l.initial.files (vec_len l.bytes) l.files;
  given : HaveGiven l.name l.bytes.items (g.F.Files.reads l.initial.files) (g.F.Files.reads l.files);
  pieces : AddsPieces (g.F.Files.contents l.initial.files) (g.F.Files.reads l.initial.files) (g.F.Files.reads l.files);
  so_far : IsReadSoFar (g.F.Files.contents l.files) l.name l.bytes.items;
}

abbrev pub decreases-pieces : goal.decreases-pieces
decreases-pieces g l = 16777217 - vec_len l.bytes
