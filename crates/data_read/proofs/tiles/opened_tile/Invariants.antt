use Rattle.std.proofs.Common.{take, drop}
use Rattle.csv.specs.Records.{fields_of}
use Rattle.data_read.proofs.Values.{IsOpening}
use Rattle.data_read.proofs.tiles.opened_tile.Given as goal

-- the tile has the values of the fields so far
abbrev pub invariant-loop-k : goal.invariant-loop-k
invariant-loop-k l = IsOpening l.elements (take l.k (drop l.first (fields_of l.fields))) l.tile
