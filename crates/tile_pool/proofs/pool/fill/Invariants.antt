use Rattle.std.proofs.Common.{◌≡◌, ◌≤◌, vec_len, vec_capacity}
use Rattle.tile_pool.specs.Pool.{HaveLength}
use Rattle.tile_pool.proofs.pool.fill.Given as goal

abbrev pub invariant-loop-i : goal.invariant-loop-i
invariant-loop-i l = record {
  count : vec_len l.tiles ≡ l._i;
  capacity : vec_capacity l.initial.tiles ≤ vec_capacity l.tiles;
  tiles : HaveLength l.elems l.tiles.items;
}
