use Rattle.ptg_base.specs.TaskLaws.{task_cmp-total, task_cmp-compares}
use Rattle.ptg_base.proofs.laws.tasks_compare_in_task_order.Goals as goal

pub returns-clause-total : goal.returns-clause-total
returns-clause-total c = task_cmp-total

pub returns-clause-task_order : goal.returns-clause-task_order
returns-clause-task_order c = task_cmp-compares
