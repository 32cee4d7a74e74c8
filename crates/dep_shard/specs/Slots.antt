-- What the nodes of an entry hold for its task, one place for each node.
use Rattle.std.specs.Prelude.{List, [], ◌∷◌, Option, Some, None}
use Rattle.ptg_base.specs.Entry.{FlowTile}

-- the tile that a node holds for its task, if it holds one
abbrev pub Slot : Type 0
Slot = Option FlowTile

-- the tiles alone
abbrev pub held : List Slot → List FlowTile
held [] = []
held (None ∷ slots) = held slots
held (Some t ∷ slots) = t ∷ held slots
