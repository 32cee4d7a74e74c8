use Rattle.std.proofs.Common.{◌≡◌, take, flat_map}
use Rattle.run_pool.specs.Seated.{log_on}
use Rattle.run_pool.proofs.tracing.logs_of.Given as goal

abbrev pub invariant-loop-desk : goal.invariant-loop-desk
invariant-loop-desk l = l.log.items ≡ flat_map log_on (take l.desk-index l.desks)
