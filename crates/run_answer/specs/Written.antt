-- What a run has written back, to replace tiles of its data: write-backs, each with its tile.
-- Carried by: `with_written`.
-- Tested by: `traps.txt`, `stalls.txt`.
use Rattle.std.specs.Prelude.{ℤ, List, map, Option, Some}
use Rattle.ptg_base.specs.declared.edge.WriteBack.{WriteBack}
use Rattle.coll_data.specs.Data.{Data}
use Rattle.coll_data.specs.Tiles.{HasPlace}
use Rattle.coll_data.specs.WellMade.{IsTileOf}

-- each write-back with its tile, as the event machine has it
abbrev pub with_tiles : List (WriteBack × List ℤ) → List (WriteBack × Option (List ℤ))
with_tiles ws = map (λ ((write, tile) : WriteBack × List ℤ). (write, Some tile)) ws

-- the place of the write-back exists, and the tile has as many numbers as the type of its collection has elements
pub record IsWritable (d : Data) (w : WriteBack × List ℤ) : Type 0 where
  pub exists : HasPlace d.colls w.0.place
  pub elements : IsTileOf d w.0.place.coll w.1
