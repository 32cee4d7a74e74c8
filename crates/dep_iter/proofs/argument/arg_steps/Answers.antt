use Rattle.range_space.specs.Fault.{number}
use Rattle.dep_iter.proofs.Odometer.{one_value}
use Rattle.dep_iter.proofs.argument.arg_steps.Goals as goal

pub returns-in-One : goal.returns-in-One
returns-in-One c = rw c.in-One.is (one_value (number c.in-One.e c.args.env.now) c.single_steps.result c.single_steps.ensures)
