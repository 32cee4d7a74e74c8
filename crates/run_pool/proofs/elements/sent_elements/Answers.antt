use Rattle.std.proofs.Common.{arith}
use Rattle.run_pool.proofs.Totals.{sent_at_most}
use Rattle.run_pool.proofs.elements.sent_elements.Goals as goal

pub returns-then-len-eq1-clause-at_most : goal.returns-then-len-eq1-clause-at_most
returns-then-len-eq1-clause-at_most c = omega (arith, c.elements_of_one_type.ensures, sent_at_most c.args.m.now c.plan.ensures.consistent)

pub returns-else-len-eq1-clause-at_most : goal.returns-else-len-eq1-clause-at_most
returns-else-len-eq1-clause-at_most c = omega (arith, c.elements_of_all.ensures, sent_at_most c.args.m.now c.plan.ensures.consistent)
