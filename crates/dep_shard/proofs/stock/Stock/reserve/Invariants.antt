use Rattle.std.proofs.Common.{◌≡◌, ◌≤◌, ◌<◌, ℕ, slice_index, None}
use Rattle.dep_shard.specs.Stock.{UsesTile}
use Rattle.dep_shard.proofs.stock.Stock.reserve.Given as goal

abbrev pub invariant-loop-k : goal.invariant-loop-k
invariant-loop-k l = record {
  elems : l.self.elems ≡ l.initial.self.elems;
  more : UsesTile l.initial.self.spare l.self.spare None;
  done : (j : ℕ) → j < l.k → slice_index l.tiles j ≤ slice_index l.self.spare j;
}
