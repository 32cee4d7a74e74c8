-- Reserved tiles, by type: spares, and what an addition uses of them.
-- Carried by: `Shard::reserve`, `Shard::add_ready`, `Shard::index_of`, `Shard::arrive`, `Shard::arrive_at`,
-- `Shard::arrive_first`, `Shard::best_ready`, `Shard::is_ready`, `Shard::take_ready`, `Shard::is_calm`, `Shard::write`,
-- `Shard::end`, `Shard::trap`.
-- Tested by: `ptg_measure`.
use Rattle.std.specs.Prelude.{ℕ, ◌+◌, ◌≤◌, nat_eq, if◌then◌else◌, List, slice_index, Option, Some, None}

-- the tiles of one type: how many numbers each has, and how many more can come without memory
pub record TypeTiles : Type 0 where
  pub elems : ℕ
  pub spare : ℕ

-- the tiles of all types, each list by type number
pub record AllTiles : Type 0 where
  pub elems : List ℕ
  pub spare : List ℕ

-- how many tiles of type k are used by one tile of this type, or by no tile
abbrev pub tiles_used : Option ℕ → ℕ → ℕ
tiles_used None k = 0
tiles_used (Some datatype) k = if nat_eq datatype k then 1 else 0

-- of the spare tiles of each type, no more are gone than this tile uses
abbrev pub UsesTile : List ℕ → List ℕ → Option ℕ → Type 0
UsesTile old new datatype = (k : ℕ) → slice_index old k ≤ slice_index new k + tiles_used datatype k
