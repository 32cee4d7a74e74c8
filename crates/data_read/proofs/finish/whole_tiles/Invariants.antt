use Rattle.std.proofs.Common.{◌≡◌, ◌++◌, ℤ, pos, List, map, replicate, unwrap_or, Option}
use Rattle.data_read.proofs.finish.whole_tiles.Given as goal

-- the tiles so far, and then those that are left
abbrev pub invariant-loop-tile : goal.invariant-loop-tile
invariant-loop-tile l = l.whole ++ map (λ (tile : Option (List ℤ)). unwrap_or tile (replicate l.elements (pos 0)))
    l.tile-iterator.rest.items ≡ map (λ (tile : Option (List ℤ)). unwrap_or tile (replicate l.elements (pos 0)))
    l.fn.tiles
