use Rattle.std.proofs.Common.{◌≡◌, ◌++◌, take}
use Rattle.run_pool.proofs.tracing.with_entries.Given as goal

abbrev pub invariant-loop-entry : goal.invariant-loop-entry
invariant-loop-entry l = l.log.items ≡ l.fn.log.items ++ take l.entry-index l.more
