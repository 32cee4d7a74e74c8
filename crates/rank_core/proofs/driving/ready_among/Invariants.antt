use Rattle.std.proofs.Common.{◌≡◌, ◌<◌, ◌≤◌}
use Rattle.ptg_base.specs.Task.{Task}
use Rattle.flow_meaning.specs.Machine.{MayClaim}
use Rattle.rank_core.specs.World.{rank_of}
use Rattle.rank_core.proofs.driving.ready_among.Given as goal

-- the ranks before this one have no task that may run
abbrev pub invariant-loop-rank : goal.invariant-loop-rank
invariant-loop-rank l =
    (l.world ≡ l.initial.world)
    × ((t : Task) → l.first ≤ rank_of l.initial.world.plan l.initial.world.ranks t
    → rank_of l.initial.world.plan l.initial.world.ranks t < l.rank
    → MayClaim l.initial.world.plan l.initial.world.state.machine t → ⊥)
