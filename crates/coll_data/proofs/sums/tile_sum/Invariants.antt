use Rattle.std.proofs.Common.{◌≡◌, ◌*◌, ◌^◌, ◌≤◌, length, take, unsigned_abs}
use Rattle.coll_data.specs.Sums.{sum_of, tile_elements}
use Rattle.coll_data.proofs.sums.tile_sum.Given as goal

abbrev pub invariant-loop-tile : goal.invariant-loop-tile
invariant-loop-tile l = record {
  sum_so_far : l.sum ≡ sum_of (tile_elements (take l.tile-index l.tiles));
  bounds : unsigned_abs l.sum ≤ 2 ^ 63 * length (tile_elements (take l.tile-index l.tiles));
}
