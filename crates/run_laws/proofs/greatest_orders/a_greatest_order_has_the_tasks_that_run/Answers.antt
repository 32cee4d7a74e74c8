use Rattle.run_laws.proofs.Greatest.{same_members}
use Rattle.run_laws.proofs.greatest_orders.a_greatest_order_has_the_tasks_that_run.Goals as goal

pub returns : goal.returns
returns c = λ P G ts con calm g. same_members P G con calm ts g
