use Rattle.std.proofs.Common.{◌≡◌, ◌+◌, ◌*◌, ◌≤◌, drop}
use Rattle.chain_cert.specs.Weights.{chain_weight}
use Rattle.cert_check.proofs.heaviest.chain_weight.Given as goal

abbrev pub invariant-loop-t : goal.invariant-loop-t
invariant-loop-t l = record {
  so_far : l.total + chain_weight l.weights (drop l.t-index l.chain) ≡ chain_weight l.weights l.chain;
  at_most : l.total ≤ 1000000 * l.t-index;
}
