-- The nodes of a list of tiles: each may hold a tile of a flow, and has the nodes after it.
use Rattle.std.specs.Prelude.{◌<◌, List, [], ◌∷◌, Some, None}
use Rattle.ptg_base.specs.Limits.{most_flows}
use Rattle.dep_shard.specs.Slots.{Slot}
use Rattle.dep_shard.specs.declared.tile_list.First.{First}
use Rattle.dep_shard.specs.declared.tile_list.First.TheVariants.{End, More}
use Rattle.dep_shard.specs.declared.tile_list.TileNode.{TileNode}
use Rattle.dep_shard.specs.declared.tile_list.TileNode.TheVariants.{Empty, Held, Spent}

-- what a node and those after it hold
abbrev pub slots_of_node : TileNode → List Slot
slots_of_node (Empty rest) = None ∷ rest
slots_of_node (Held flow tile rest) = Some (flow, tile) ∷ rest
slots_of_node (Spent tile rest) = None ∷ rest

-- what the nodes hold, from the last tile that came to the first
abbrev pub slots_of : First → List Slot
slots_of End = []
slots_of (More node) = slots_of_node node.value

-- the flow of the tile that a node holds for its task is below 8
abbrev pub HoldsSmallFlow : TileNode → Type 0
HoldsSmallFlow (Empty rest) = Unit {0}
HoldsSmallFlow (Held flow tile rest) = flow < most_flows
HoldsSmallFlow (Spent tile rest) = Unit {0}

-- the flow of the first tile is below 8
abbrev pub BeginsWithSmallFlow : First → Type 0
BeginsWithSmallFlow End = Unit {0}
BeginsWithSmallFlow (More node) = HoldsSmallFlow node.value
