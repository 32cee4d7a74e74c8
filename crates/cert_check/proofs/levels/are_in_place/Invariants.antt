use Rattle.std.proofs.Common.{◌↔◌, drop}
use Rattle.std.specs.Map.{keys_of}
use Rattle.cert_check.specs.Checking.{AreInPlace}
use Rattle.cert_check.proofs.levels.are_in_place.Given as goal

abbrev pub invariant-loop-at : goal.invariant-loop-at
invariant-loop-at l = AreInPlace l.plan (keys_of l.rows) ↔ AreInPlace l.plan (keys_of (drop l.at l.rows))
