-- The tiles that a task starts on, by flow, given what the edges into it deliver. Source: DAGuE (Parallel Computing,
-- 2012): a task runs on the outputs of its sources; PaRSEC (2013) for `NEW`. That a new tile is zeros, and that a WRITE
-- flow without a source starts as new, is this project's own choice.
-- Carried by: `flow_core::run_one`; laws `a_task_ends_by_its_sources`, `what_a_round_finds_stays`.
-- Tested by: `jobs.txt`, `answers.txt`, `chain.txt`, `traps.txt`, `stalls.txt`, `examples.txt`.
use Rattle.std.specs.Prelude.{ℕ, suc, ℤ, pos, List, [], ◌∷◌, ◌++◌, map, replicate, slice_index, Option, Some, None, option_to_list, if◌then◌else◌}
use Rattle.ptg_base.specs.Entry.{FlowTile}
use Rattle.ptg_base.specs.Task.{Task}
use Rattle.ptg_base.specs.declared.edge.Edge.{Edge}
use Rattle.term_core.specs.declared.flow.FlowKind.{FlowKind}
use Rattle.term_core.specs.declared.flow.FlowKind.TheVariants.{Read, Write, Rw, Ctl}
use Rattle.plan_core.specs.declared.flow.FlowPlan.{FlowPlan}
use Rattle.plan_core.specs.declared.plan.Plan.{Plan}
use Rattle.plan_core.specs.Kinds.{is_data}
use Rattle.coll_data.specs.Data.{Data}
use Rattle.coll_data.specs.Tiles.{tile_at}
use Rattle.dep_iter.specs.declared.source.Source.{Source}
use Rattle.dep_iter.specs.declared.source.Source.TheVariants as source
use Rattle.dep_iter.specs.Tasks.{flows_of}
use Rattle.dep_iter.specs.Edges.{data_source}

-- what each edge delivers: a tile, or none
abbrev pub Delivery : Type 0
Delivery = Edge → Option (List ℤ)

-- No edge delivers a tile.
abbrev pub nothing_delivered : Delivery
nothing_delivered e = None

-- a new tile for a flow: as many zeros as the type of the flow has elements
abbrev pub new_tile : Plan → FlowPlan → List ℤ
new_tile P f = replicate (slice_index P.elems f.datatype) (pos 0)

-- The tile of a flow of this kind that has no source: a WRITE flow starts as new. In a consistent job every READ and RW
-- flow has a source.
abbrev pub unsourced_tile : FlowKind → List ℤ → Option (List ℤ)
unsourced_tile Read new = None
unsourced_tile Write new = Some new
unsourced_tile Rw new = None
unsourced_tile Ctl new = None

-- the tile that a flow gets from its source: what the edge delivers, the element of the data, or a new tile; none from
-- `NULL`
abbrev pub tile_from : Plan → Data → Delivery → FlowPlan → Source → Option (List ℤ)
tile_from P G delivered f (source.Task e) = delivered e
tile_from P G delivered f (source.Place p) = tile_at G.colls p
tile_from P G delivered f source.New = Some (new_tile P f)
tile_from P G delivered f source.Null = None
tile_from P G delivered f source.Nothing = unsourced_tile f.kind (new_tile P f)

-- the tile that flow n of a task starts on; a CTL flow has none
abbrev pub starting_tile : Plan → Data → Delivery → Task → ℕ → FlowPlan → Option (List ℤ)
starting_tile P G delivered t n f =
    if is_data (Some f.kind) then tile_from P G delivered f (data_source P t n) else None

-- the tiles that these flows of a task start on; the flows are numbered from n on
abbrev pub tiles_from : Plan → Data → Delivery → Task → ℕ → List FlowPlan → List (Option (List ℤ))
tiles_from P G delivered t n [] = []
tiles_from P G delivered t n (f ∷ fs) = starting_tile P G delivered t n f ∷ tiles_from P G delivered t (suc n) fs

-- the tiles that a task starts on: an entry for each of its flows, in order
unfoldable pub starting_tiles : Plan → Data → Delivery → Task → List (Option (List ℤ))
starting_tiles P G delivered t = tiles_from P G delivered t 0 (flows_of P t)

-- the tile that comes to flow n from a source by an edge, if one does
abbrev pub delivered_from : Delivery → ℕ → Source → List FlowTile
delivered_from delivered n (source.Task e) = map (λ tile. (n, tile)) (option_to_list (delivered e))
delivered_from delivered n (source.Place p) = []
delivered_from delivered n source.New = []
delivered_from delivered n source.Null = []
delivered_from delivered n source.Nothing = []

-- the tile that comes to flow n of a task by an edge, if one does; nothing comes to a CTL flow
abbrev pub delivered_tile : Plan → Delivery → Task → ℕ → FlowPlan → List FlowTile
delivered_tile P delivered t n f = if is_data (Some f.kind) then delivered_from delivered n (data_source P t n) else []

-- the tiles that come to these flows of a task by edges; the flows are numbered from n on
abbrev pub delivered_to : Plan → Delivery → Task → ℕ → List FlowPlan → List FlowTile
delivered_to P delivered t n [] = []
delivered_to P delivered t n (f ∷ fs) = delivered_tile P delivered t n f ++ delivered_to P delivered t (suc n) fs

-- the tiles that come to a task by edges, each after the number of its flow, in order of flow number
unfoldable pub delivered_tiles : Plan → Delivery → Task → List FlowTile
delivered_tiles P delivered t = delivered_to P delivered t 0 (flows_of P t)
