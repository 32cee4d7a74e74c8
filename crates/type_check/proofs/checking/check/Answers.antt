use Rattle.type_check.proofs.Plans.{plan_or_fault}
use Rattle.type_check.proofs.checking.check.Goals as goal

pub returns-clause-exact : goal.returns-clause-exact
returns-clause-exact c = plan_or_fault (record { jdf = c.args.jdf.now; given = c.args.given.now }) c.answer.result c.answer.ensures
