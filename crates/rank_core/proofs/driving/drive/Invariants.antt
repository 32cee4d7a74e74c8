use Rattle.rank_core.specs.Driving.{IsLaterWorld, turns_left}
use Rattle.rank_core.proofs.driving.drive.Given as goal

abbrev pub invariant-turns : goal.invariant-turns
invariant-turns l = IsLaterWorld l.initial.world l.world

abbrev pub decreases-turns : goal.decreases-turns
decreases-turns l = turns_left l.world
