use Rattle.std.proofs.Common.{◌≡◌, replicate, None}
use Rattle.data_read.proofs.colls.no_tiles.Given as goal

abbrev pub invariant-loop-turn : goal.invariant-loop-turn
invariant-loop-turn l = l.tiles ≡ replicate l.turn None
