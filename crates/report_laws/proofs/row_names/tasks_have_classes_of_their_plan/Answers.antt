use Rattle.report_laws.proofs.PlanRows.{has_class}
use Rattle.report_laws.proofs.row_names.tasks_have_classes_of_their_plan.Goals as goal

pub returns : goal.returns
returns c = λ P t task. has_class P t task
