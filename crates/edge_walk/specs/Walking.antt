-- A walk over the active dependences of a task in one direction: what it has left at a position.
use Rattle.std.specs.Prelude.{ℤ, List, ◌++◌, map, Bool, ◌&&◌}
use Rattle.term_core.specs.declared.direction.Direction.{Direction}
use Rattle.plan_core.specs.declared.plan.Plan.{Plan}
use Rattle.dep_iter.specs.Links.{dependences_fit, flows_fit}
use Rattle.edge_walk.specs.declared.position.Position.{Position}
use Rattle.edge_walk.specs.Ties.{Numbered, active_from, numbered, numbered_targets}

-- the active dependences left: those left in the flow at hand, then those of the flows after it
abbrev pub left : Direction → List ℤ → Position → List Numbered
left direction env p =
    map (numbered p.flow) (numbered_targets p.first_only p.dependence p.deps.now env)
    ++ active_from direction env p.next_flow p.flows.now

-- whether the targets of all dependences left fit the plan
abbrev pub position_fits : Plan → Position → Bool
position_fits P p = dependences_fit P p.deps.now && flows_fit P p.flows.now
