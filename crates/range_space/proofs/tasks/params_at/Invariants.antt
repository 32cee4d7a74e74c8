use Rattle.std.proofs.Common.{◌≡◌, take}
use Rattle.range_space.specs.Tasks.{params_of}
use Rattle.range_space.proofs.tasks.params_at.Given as goal

abbrev pub invariant-loop-definition : goal.invariant-loop-definition
invariant-loop-definition l = l.params ≡ params_of (take l.definition-index l.definition-items) l.locals
