use Rattle.std.proofs.Common.{take}
use Rattle.cert_check.specs.Checking.{AreHighEnough}
use Rattle.cert_check.proofs.levels.are_high_enough.Given as goal

abbrev pub invariant-loop-row : goal.invariant-loop-row
invariant-loop-row l = AreHighEnough l.m l.weights l.levels (take l.row-index l.levels)
