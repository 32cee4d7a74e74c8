use Rattle.std.proofs.Common.{rules, arith, ◌∙◌, ap, sym, List}
use Rattle.ptg_base.specs.Entry.{FlowTile}
use Rattle.dep_shard.specs.Arrivals.{tile_of, without_tile}
use Rattle.dep_shard.proofs.ByFlow.{tile_of-tiles_by_flow, tiles_by_flow-clear}
use Rattle.dep_shard.proofs.flow_tiles.FlowTiles.take.Goals as goal

pub returns-clause-tile : goal.returns-clause-tile
returns-clause-tile c =
    c.take.ensures.value
    ∙ sym (tile_of-tiles_by_flow 0 c.self.inside.tiles c.args.flow c.index-self-flow.result c.args.flow (omega arith) (search rules))
    ∙ ap (λ (ts : List FlowTile). tile_of ts c.args.flow) c.self.view_is

pub returns-clause-rest : goal.returns-clause-rest
returns-clause-rest c =
    tiles_by_flow-clear 0 c.self.inside.tiles c.args.flow _ c.args.flow c.take.ensures.after (omega arith)
    (search rules) ∙ ap (without_tile c.args.flow) c.self.view_is
