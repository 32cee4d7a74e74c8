use Rattle.std.proofs.Common.{◌≡◌, take}
use Rattle.edge_match.proofs.refusing.fault_at.Given as goal

abbrev pub invariant-loop-v : goal.invariant-loop-v
invariant-loop-v l = l.numbers ≡ take l.v-index l.params
