use Rattle.std.proofs.Common.{take}
use Rattle.chain_cert.specs.Finding.{HasLevels}
use Rattle.chain_cert.proofs.leveling.levels_along.Given as goal

abbrev pub invariant-loop-t : goal.invariant-loop-t
invariant-loop-t l = HasLevels l.m l.weights (take l.t-index l.order) l.table.entries
