-- The kinds of flows, and what each does with its tile. Source: PaRSEC 2013: a CTL flow carries order alone, every
-- other flow a tile; the JDF documentation: READ takes a tile, WRITE changes one, RW does both.
-- Carried by: the methods of `FlowKind`.
-- Tested by: `type_faults.txt`, `edges.txt`.
use Rattle.std.specs.Prelude.{Bool, true, false}
use Rattle.term_core.specs.declared.direction.Direction.{Direction}
use Rattle.term_core.specs.declared.direction.Direction.TheVariants.{In, Out}
use Rattle.term_core.specs.declared.flow.FlowKind.{FlowKind}
use Rattle.term_core.specs.declared.flow.FlowKind.TheVariants.{Read, Write, Rw, Ctl}

-- whether it carries order alone, and no tile
abbrev pub is_control : FlowKind → Bool
is_control Read = false
is_control Write = false
is_control Rw = false
is_control Ctl = true

-- whether it carries a tile
abbrev pub is_data : FlowKind → Bool
is_data Read = true
is_data Write = true
is_data Rw = true
is_data Ctl = false

-- whether a body may change its tile
abbrev pub is_writable : FlowKind → Bool
is_writable Read = false
is_writable Write = true
is_writable Rw = true
is_writable Ctl = false

-- whether its tile is only written
abbrev pub is_write : FlowKind → Bool
is_write Read = false
is_write Write = true
is_write Rw = false
is_write Ctl = false

-- whether it takes a tile, so that one of its in dependences must hold
abbrev pub takes_tile : FlowKind → Bool
takes_tile Read = true
takes_tile Write = false
takes_tile Rw = true
takes_tile Ctl = false

-- Whether, of the dependences of a flow in this direction, only the first one that holds is active. This is so for the
-- in dependences of a flow that carries a tile.
abbrev pub first_only : Direction → FlowKind → Bool
first_only In kind = is_data kind
first_only Out kind = false
