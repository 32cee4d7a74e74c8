use Rattle.type_rules.proofs.Joins.{still_err, of_both}
use Rattle.type_rules.proofs.Tasks.{task_from}
use Rattle.type_rules.proofs.target.task_target.Goals as goal

pub returns-in-Err : goal.returns-in-Err
returns-in-Err c = still_err c.in-Err.refusal _ _ _ (c.in-Err.ensures _ _ _ _ c.task-known.ensures c.arguments.ensures)

pub returns-in-Ok : goal.returns-in-Ok
returns-in-Ok c = of_both task_from c.in-Ok.known c.in-Ok.args _ _ _ (c.in-Ok.ensures _ _ _ _ c.task-known.ensures c.arguments.ensures)
