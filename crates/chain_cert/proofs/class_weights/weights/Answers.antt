use Rattle.std.proofs.Common.{sym, subst, take}
use Rattle.chain_cert.specs.Checking.{AreWeights}
use Rattle.chain_cert.proofs.Weighing.{each_most}
use Rattle.chain_cert.proofs.class_weights.weights.Goals as goal

pub returns-clause-bounded : goal.returns-clause-bounded
returns-clause-bounded c = subst AreWeights (sym c.loop-class.invariant) (each_most c.args.given.now (take c.loop-class.class-index c.args.plan.now.classes))
