-- The two directions of edges and of dependences: those into a task or a flow, and those out of it.
-- Source: PaRSEC 2013.
-- Carried by: the methods of `Direction`.
-- Tested by: `type_faults.txt`, `edges.txt`.
use Rattle.std.specs.Prelude.{Bool, true, false}
use Rattle.term_core.specs.declared.direction.Direction.{Direction}
use Rattle.term_core.specs.declared.direction.Direction.TheVariants.{In, Out}

-- the other direction
abbrev pub opposite : Direction → Direction
opposite In = Out
opposite Out = In

-- whether two directions are the same
abbrev pub is_same : Direction → Direction → Bool
is_same In In = true
is_same In Out = false
is_same Out In = false
is_same Out Out = true
