-- The lists of locals that a walk has still to return.
use Rattle.std.specs.Prelude.{ℤ, Bool, true, false, List, [], ◌∷◌}
use Rattle.term_core.specs.declared.space.ClassSpace.{ClassSpace}
use Rattle.range_space.specs.ListsAfter.{lists_after}

-- these locals, which come next, and all lists of locals after them; none if the walk is over
abbrev pub remaining_locals : Bool → ClassSpace → List ℤ → List (List ℤ)
remaining_locals true s locals = locals ∷ lists_after s.defs [] locals
remaining_locals false s locals = []
