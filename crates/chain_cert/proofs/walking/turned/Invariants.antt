use Rattle.std.proofs.Common.{◌≡◌, take}
use Rattle.chain_cert.proofs.walking.turned.Given as goal

abbrev pub invariant-loop-t : goal.invariant-loop-t
invariant-loop-t l = l.turned.items ≡ take l.t-index l.tasks
