-- Data with one tile replaced.
use Rattle.std.specs.Prelude.{ℤ, List, slice_get, slice_set}
use Rattle.std.specs.Option.{option_map_or}
use Rattle.ptg_base.specs.declared.place.Place.{Place}
use Rattle.coll_data.specs.declared.coll.Coll.{Coll}
use Rattle.coll_data.specs.Data.{Data}
use Rattle.coll_data.specs.Tiles.{tile_index}

-- a collection with the tile in row i and column j replaced, if there is one
abbrev pub coll_with : Coll → ℤ → ℤ → List ℤ → Coll
coll_with c i j tile =
    record c { tiles = option_map_or (λ k. slice_set c.tiles k tile) (tile_index c.shape.0 c.shape.1 i j) c.tiles }

-- the data with the tile at a place replaced, if there is such a place
abbrev pub with_tile_at : Data → Place → List ℤ → Data
with_tile_at d p tile =
    record d {
      colls =
          option_map_or (λ c. slice_set d.colls p.coll (coll_with c p.i p.j tile)) (slice_get d.colls p.coll) d.colls;
    }
