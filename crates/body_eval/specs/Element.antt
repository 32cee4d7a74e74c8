-- The elements of the tiles of a task's flows.
use Rattle.std.specs.Prelude.{ℕ, ℤ, pos, List, length, Result, Ok, Err, Option, Some, None, slice_index_or, slice_set}
use Rattle.term_core.specs.Term.{Term}
use Rattle.ptg_base.specs.Index.{index_in}
use Rattle.ptg_base.specs.Returns.{and_then}
use Rattle.term_core.specs.Value.{value_with}
use Rattle.term_core.specs.Trap.{trap_of}
use Rattle.term_core.specs.declared.trap.Trap.{Trap}
use Rattle.term_core.specs.declared.trap.Trap.TheVariants.{Index, Absent}

-- the tile of a flow: none if the flow is absent or if there is no such flow
abbrev pub tile_of : List (Option (List ℤ)) → ℕ → Option (List ℤ)
tile_of tiles flow = slice_index_or tiles flow None

-- the element at an index
abbrev pub read_at : List ℤ → Option ℕ → Result ℤ Trap
read_at xs (Some n) = Ok (slice_index_or xs n (pos 0))
read_at xs None = Err Index

-- the element of a tile, if the tile is there
abbrev pub read : Option (List ℤ) → ℤ → Result ℤ Trap
read None at = Err Absent
read (Some xs) at = read_at xs (index_in (length xs) at)

-- the element of a flow's tile: whether the flow is there is tested first, then the index
abbrev pub element_value : List (Option (List ℤ)) → ℕ → ℤ → Result ℤ Trap
element_value tiles flow at = read (tile_of tiles flow) at

-- a tile with another element at an index
abbrev pub written_at : List ℤ → Option ℕ → ℤ → Result (List ℤ) Trap
written_at xs (Some n) v = Ok (slice_set xs n v)
written_at xs None v = Err Index

-- a tile, if it is there, with another element at an index
abbrev pub written : Option (List ℤ) → ℤ → ℤ → Result (List ℤ) Trap
written None at v = Err Absent
written (Some xs) at v = written_at xs (index_in (length xs) at) v

-- the tiles with another element in a flow's tile: whether the flow is there is tested first, then the index
abbrev pub put_element : List (Option (List ℤ)) → ℕ → ℤ → ℤ → Result (List (Option (List ℤ))) Trap
put_element tiles flow at v = and_then (written (tile_of tiles flow) at v) (λ xs. Ok (slice_set tiles flow (Some xs)))

-- the value of an expression of a body: a local or a variable is read from its slot, an element from its flow's tile
abbrev pub body_value : List ℤ → List (Option (List ℤ)) → Term → Result ℤ Trap
body_value slots tiles e = value_with trap_of (element_value tiles) slots e
