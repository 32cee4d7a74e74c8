-- The tiles that came to a task, in flow order, by the numbers of its flows. Source: DAGuE 2012, where a task keeps the
-- data of its dependences until it runs.
-- Carried by: `Arrivals::move_to`, `FlowTiles::take`.
-- Tested by: `ptg_measure`.
use Rattle.std.specs.Prelude.{ℕ, ◌+◌, ◌<◌, ◌≤◌, ℤ, not, nat_eq, nat_lt, if◌then◌else◌, List, [], ◌∷◌, filter, Option, Some, None}
use Rattle.std.specs.Map.{lookup}
use Rattle.ptg_base.specs.Entry.{FlowTile}
use Rattle.ptg_base.specs.Limits.{most_flows}

-- The list with this tile at this flow: it comes before the tiles of greater flows, and replaces one of the same flow.
abbrev pub with_tile : ℕ → List ℤ → List FlowTile → List FlowTile
with_tile flow tile [] = (flow, tile) ∷ []
with_tile flow tile (t ∷ ts) =
    if nat_lt flow t.0
    then (flow, tile) ∷ t ∷ ts
    else if nat_eq flow t.0 then (flow, tile) ∷ ts else t ∷ with_tile flow tile ts

-- Tiles that are listed latest first, put in order of flow number. Of the tiles of one flow the latest stays.
abbrev pub in_flow_order : List FlowTile → List FlowTile
in_flow_order [] = []
in_flow_order (t ∷ ts) = with_tile t.0 t.1 (in_flow_order ts)

-- the tile of a flow, if it has one
abbrev pub tile_of : List FlowTile → ℕ → Option (List ℤ)
tile_of tiles flow = lookup (nat_eq flow) tiles

-- the list without the tile of this flow
abbrev pub without_tile : ℕ → List FlowTile → List FlowTile
without_tile flow tiles = filter (λ ((n, tile) : FlowTile). not (nat_eq flow n)) tiles

-- The flow numbers rise, are at least `least`, and are below 8.
abbrev pub RiseFrom : ℕ → List FlowTile → Type 0
RiseFrom least [] = Unit {0}
RiseFrom least (t ∷ ts) = (least ≤ t.0) × (t.0 < most_flows) × RiseFrom (t.0 + 1) ts

-- The tiles are in order of flow number, no flow is there twice, and each is below 8.
abbrev pub IsInFlowOrder : List FlowTile → Type 0
IsInFlowOrder tiles = RiseFrom 0 tiles

-- the tiles of an array that has one place for each flow, the first place being that of flow n
abbrev pub tiles_by_flow : ℕ → List (Option (List ℤ)) → List FlowTile
tiles_by_flow n [] = []
tiles_by_flow n (None ∷ slots) = tiles_by_flow (n + 1) slots
tiles_by_flow n (Some tile ∷ slots) = (n, tile) ∷ tiles_by_flow (n + 1) slots
