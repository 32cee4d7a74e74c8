-- The room of a rank for what comes to it.
use Rattle.std.specs.Prelude.{ℕ, ◌<◌, ◌≤◌, ◌+◌, length, slice_index}
use Rattle.dep_shard.specs.Content.{Content}

-- the rank has spares for this many edges and this many write-backs, of whatever types, and for a trap
pub record HasRoomFor (edge_count write_count : ℕ) (y : Content) : Type 0 where
  pub entries : edge_count ≤ y.spare.entries
  pub tiles : (datatype : ℕ) → datatype < length y.elems → edge_count + write_count ≤ slice_index y.spare.tiles datatype
  pub writes : write_count ≤ y.spare.writes
  pub trap : 1 ≤ y.spare.traps
