use Rattle.std.proofs.Common.{◌↔◌, drop}
use Rattle.ptg_base.specs.Lists.{HasNoRepeats}
use Rattle.cert_check.proofs.cycles.are_different.Given as goal

abbrev pub invariant-loop-at : goal.invariant-loop-at
invariant-loop-at l = HasNoRepeats l.tasks ↔ HasNoRepeats (drop l.at l.tasks)
