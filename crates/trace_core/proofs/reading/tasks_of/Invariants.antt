use Rattle.std.proofs.Common.{◌≡◌, ◌++◌}
use Rattle.trace_core.proofs.reading.tasks_of.Given as goal

-- what is moved and what is left
abbrev pub invariant-loop-t : goal.invariant-loop-t
invariant-loop-t l = l.tasks.items ++ l.t-iterator ≡ l.fn.set.keys
