use Rattle.std.proofs.Common.{◌<◌, arith, sym}
use Rattle.std.proofs.lemmas.Int.{to_z-of_z}
use Rattle.coll_data.specs.Tiles.{tile_count}
use Rattle.coll_data.proofs.TileIndex.{index_within}
use Rattle.coll_data.proofs.coll.Coll.put.Goals as goal

pub set-requires : goal.set-requires
set-requires c =
    let f = c.ranges.i in
    let g = c.ranges.j in
    let found = simp to_z-of_z at c.in-Some.ensures in
    let within : c.in-Some.index < tile_count c.args.self.now.shape.0 c.args.self.now.shape.1 =
    index_within c.args.self.now.shape.0 c.args.self.now.shape.1 c.args.i c.args.j c.in-Some.index (sym found) in
    omega (arith, c.requires.all_tiles)
