use Rattle.std.proofs.Common.{◌≡◌, map, take}
use Rattle.chain_cert.specs.Weights.{class_weight}
use Rattle.chain_cert.proofs.class_weights.weights.Given as goal

abbrev pub invariant-loop-class : goal.invariant-loop-class
invariant-loop-class l = l.weights ≡ map (class_weight l.given) (take l.class-index l.plan.classes)
