use Rattle.std.specs.Prelude.{Some, length, slice_set}
use Rattle.std.proofs.Common.{rules, arith, ◌≡◌, ◌∙◌, ap}
use Rattle.std.proofs.lemmas.List.{length-set}
use Rattle.dep_shard.specs.Arrivals.{with_tile}
use Rattle.dep_shard.proofs.ByFlow.{in_order, tiles_by_flow-set}
use Rattle.dep_shard.proofs.flow_tiles.FlowTiles.put.Goals as goal

pub returns-clause-tiles : goal.returns-clause-tiles
returns-clause-tiles c =
    tiles_by_flow-set 0 c.self.inside.tiles c.args.flow c.args.tile c.args.flow (omega arith) (search rules)
    ∙ ap (with_tile c.args.flow c.args.tile) c.self.view_is

pub returns-clause-order : goal.returns-clause-order
returns-clause-order c =
    let count : length c.self.inside.tiles ≡ 8 = search rules in
    in_order (slice_set c.self.inside.tiles c.args.flow (Some c.args.tile)) (length-set c.self.inside.tiles c.args.flow (Some c.args.tile) ∙ count)
