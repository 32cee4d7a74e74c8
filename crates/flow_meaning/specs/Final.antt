-- The data after a run of all tasks. Each place that a task writes back to has the tile that the task leaves in the
-- write-back's flow. Each other place keeps its first tile. Source: the JDF documentation; that a write-back changes
-- nothing that a task reads is this project's own choice.
-- Carried by: `flow_core::run_one`.
-- Tested by: `jobs.txt`, `answers.txt`, `chain.txt`, `traps.txt`, `stalls.txt`, `examples.txt`.
use Rattle.std.specs.Prelude.{ℕ, suc, ℤ, Bool, ◌==◌, ◌&&◌, List, [], ◌∷◌, Option, None, unwrap_or, if◌then◌else◌, Some, nat_eq}
use Rattle.std.specs.Option.{option_eq}
use Rattle.ptg_base.specs.declared.place.Place.{Place}
use Rattle.ptg_base.specs.declared.edge.WriteBack.{WriteBack}
use Rattle.plan_core.specs.declared.plan.Plan.{Plan}
use Rattle.coll_data.specs.declared.coll.Coll.{Coll}
use Rattle.coll_data.specs.Data.{Data}
use Rattle.coll_data.specs.Tiles.{tile_index}
use Rattle.dep_iter.specs.Consistent.{all_writes}
use Rattle.flow_meaning.specs.Ending.{output_tile}
use Rattle.flow_meaning.specs.Backward.{ended}

-- whether p is the place of tile k of the collection x with number c
abbrev pub is_place_of : ℕ → Coll → ℕ → Place → Bool
is_place_of c x k p = p.coll == c && option_eq nat_eq (tile_index x.shape.0 x.shape.1 p.i p.j) (Some k)

-- the tile that a write-back brings: the one that its task leaves in its flow
abbrev pub written_tile : Plan → Data → WriteBack → Option (List ℤ)
written_tile P G w = output_tile (ended P G w.from) w.flow

-- the tile that the first of these write-backs to a place brings; `here` tests whether a place is that one. In a
-- consistent job there is at most one, and it brings a tile
abbrev pub written_to : Plan → Data → (Place → Bool) → List WriteBack → Option (List ℤ)
written_to P G here [] = None
written_to P G here (w ∷ ws) = if here w.place then written_tile P G w else written_to P G here ws

-- the tiles of the collection x with number c, from index k on, each replaced by what was written to its place, if
-- anything was
abbrev pub replaced_tiles : ((Place → Bool) → Option (List ℤ)) → ℕ → Coll → ℕ → List (List ℤ) → List (List ℤ)
replaced_tiles at c x k [] = []
replaced_tiles at c x k (tile ∷ tiles) = unwrap_or (at (is_place_of c x k)) tile ∷ replaced_tiles at c x (suc k) tiles

-- collections, from number c on, with each written tile replaced
abbrev pub replaced_colls : ((Place → Bool) → Option (List ℤ)) → ℕ → List Coll → List Coll
replaced_colls at c [] = []
replaced_colls at c (x ∷ xs) = record x { tiles = replaced_tiles at c x 0 x.tiles } ∷ replaced_colls at (suc c) xs

-- the data with the tile of each written place replaced; `at` returns what was written to the place that passes a test
abbrev pub replaced_data : ((Place → Bool) → Option (List ℤ)) → Data → Data
replaced_data at G = record G { colls = replaced_colls at 0 G.colls }

-- the data after all tasks ran
unfoldable pub final_data : Plan → Data → Data
final_data P G = replaced_data (λ here. written_to P G here (all_writes P)) G
